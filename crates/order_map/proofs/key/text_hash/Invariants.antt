use Rattle.std.proofs.Common.{◌≡◌, drop}
use Rattle.order_map.specs.Hashes.{bytes_hash}
use Rattle.order_map.proofs.key.text_hash.Given as goal

abbrev pub invariant-loop-byte : goal.invariant-loop-byte
invariant-loop-byte l = bytes_hash 0xcbf29ce484222325 l.text ≡ bytes_hash l.hash (drop l.byte-index l.text)
