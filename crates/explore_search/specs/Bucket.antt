-- The bucket of a configuration, which any function of it could be.
use Rattle.std.specs.Prelude.{ℕ, ℤ, ◌*◌, ◌/◌, ◌%◌, ◌^◌, List, [], ◌∷◌, bit_xor}
use Rattle.std.specs.Int.{w64, cast_unsigned}

-- a hash with one more number in it
unfoldable pub mixed : ℕ → ℕ → ℕ
mixed h n = let m = (bit_xor h n * 0x9E37_79B9_7F4A_7C15) % 2 ^ 64 in bit_xor m (m / 2 ^ 32)

abbrev pub hash_values : ℕ → List ℤ → ℕ
hash_values h [] = h
hash_values h (v ∷ vs) = hash_values (mixed h (cast_unsigned w64 v)) vs

abbrev pub hash_counts : ℕ → List ℕ → ℕ
hash_counts h [] = h
hash_counts h (n ∷ ns) = hash_counts (mixed h n) ns

unfoldable pub bucket_of : ℕ → List ℤ → List ℕ → ℕ
bucket_of buckets values left = mixed (hash_values 0 values) (hash_counts 0 left) * buckets / 2 ^ 64
