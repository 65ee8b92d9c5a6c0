-- Hashes of keys, and the buckets that they fall into.
use Rattle.std.specs.Prelude.{List, [], ◌∷◌, ℕ, ℤ, ◌-◌, ◌*◌, ◌/◌, ◌%◌, ◌^◌, bit_and, bit_xor}
use Rattle.std.specs.Int.{cast_unsigned, w64}
use Rattle.order_map.specs.declared.key.Key.{Key}
use Rattle.order_map.specs.declared.key.Key.TheVariants.{Int, Text}

-- the product of two words of 64 bits
abbrev pub times : ℕ → ℕ → ℕ
times a b = (a * b) % 2 ^ 64

-- a number's word, whose low 8 bits stay in order and whose other bits are spread over all
abbrev pub spread : ℕ → ℕ → ℕ
spread n high = bit_xor (bit_xor n high) (high / 2 ^ 32)

abbrev pub number_hash : ℤ → ℕ
number_hash z = spread (cast_unsigned w64 z) (times (cast_unsigned w64 z / 2 ^ 8) 0x9e3779b97f4a7c15)

-- Fowler, Noll and Vo's hash 1a of bytes behind others
abbrev pub bytes_hash : ℕ → List ℕ → ℕ
bytes_hash h [] = h
bytes_hash h (b ∷ bs) = bytes_hash (times (bit_xor h b) 0x100000001b3) bs

abbrev pub text_hash : List ℕ → ℕ
text_hash bs = bit_xor (bytes_hash 0xcbf29ce484222325 bs) (bytes_hash 0xcbf29ce484222325 bs / 2 ^ 32)

-- the hash of a key
abbrev pub key_hash : Key → ℕ
key_hash (Int z) = number_hash z
key_hash (Text bs) = text_hash bs

-- the bucket among some count of them, at least 1
unfoldable pub bucket_of : ℕ → Key → ℕ
bucket_of count key = bit_and (key_hash key) (count - 1)
