-- A page: bytes that are lent, and the place up to which they are written. A text is put on it from that place on.
use Rattle.std.specs.Prelude.{ℕ, ◌+◌, ◌≤◌, List, length}
use Rattle.layout.specs.Over.{over}
use Rattle.text.specs.declared.Page.{Page}

-- there is room for n bytes more
abbrev pub HasRoom : ℕ → Page → Type 0
HasRoom n p = p.at + n ≤ length p.out.now

-- the page once t is put on it: the same bytes, where t stands from the place on, and the place after it. It is `written` of specs/Text.antt
abbrev pub put_on : List ℕ → Page → Page
put_on t p =
    record {
      out = record { ref_ptr = p.out.ref_ptr; ghost_name = p.out.ghost_name; now = over p.at t p.out.now };
      at = p.at + length t;
    }
