-- What the theorems take from the store: cleared bytes are the empty book and are its bytes, and the bytes of a sound book read back as it.
-- Assumes nothing: the laws are a parameter of what rests on them, and `store_laws` are those of this project's store.
use mathlib.Core.Path.{◌≡◌, sym}
use mathlib.Core.Bool.{false}
use Rattle.store.specs.Store.{Book, damaged, book_of, book_bytes, cleared_bytes, empty_book, SoundBook}
use Rattle.store.proofs.Laws.{cleared, bytes_book, book_bytes_lem}

pub record StoreLaws : Type 0 where
  pub cleared_sound : damaged cleared_bytes ≡ false
  pub cleared_book : book_of cleared_bytes ≡ empty_book
  pub cleared_bytes_lem : cleared_bytes ≡ book_bytes (book_of cleared_bytes)
  pub book_sound : (b : Book) → SoundBook b → damaged (book_bytes b) ≡ false
  pub book_back : (b : Book) → SoundBook b → book_of (book_bytes b) ≡ b

pub store_laws : StoreLaws
store_laws = record {
  cleared_sound = cleared.whole;
  cleared_book = cleared.is;
  cleared_bytes_lem = sym (bytes_book cleared_bytes cleared.bytes cleared.whole);
  book_sound = λ b h. (book_bytes_lem b h).0;
  book_back = λ b h. (book_bytes_lem b h).1;
}
