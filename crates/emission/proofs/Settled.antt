-- Each public function of what a road gives out settles its outcome: one line for each.
-- Assumes nothing.
use Rattle.answer.specs.Settled.{SettlesResult}
use Rattle.answer.proofs.Settled.{settled, settled_too}
use Rattle.emission.proofs

traffic_settled : SettlesResult proofs.traffic.Reads.Post
traffic_settled l a = settled _ _

car_speed_settled : SettlesResult proofs.car_speed.Reads.Post
car_speed_settled l a = settled _ _

truck_speed_settled : SettlesResult proofs.truck_speed.Reads.Post
truck_speed_settled l a = settled _ _

car_level_settled : SettlesResult proofs.car_level.Reads.Post
car_level_settled l a = settled _ _

truck_level_settled : SettlesResult proofs.truck_level.Reads.Post
truck_level_settled l a = settled _ _

pace_of_settled : SettlesResult proofs.pace_of.Reads.Post
pace_of_settled l a = settled _ _

speed_settled : SettlesResult proofs.speed.Reads.Post
speed_settled l a = settled _ _

gradient_settled : SettlesResult proofs.gradient.Reads.Post
gradient_settled l a = settled _ _

walls_settled : SettlesResult proofs.walls.Reads.Post
walls_settled l a = settled _ _

send_settled : SettlesResult proofs.send.Reads.Post
send_settled l a = settled _ _

length_settled : SettlesResult proofs.length.Reads.Post
length_settled l a = settled _ _

sends_settled : SettlesResult proofs.sends.Reads.Post
sends_settled l a = settled _ _

source_settled : SettlesResult proofs.Sender.source.Reads.Post
source_settled l a = settled_too _ _ _

sent_settled : SettlesResult proofs.Sender.sent.Reads.Post
sent_settled l a = settled _ _
