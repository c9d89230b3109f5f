-- One-time signatures: from a text and a signature to the one-time key that they belong to (RFC 8554, section 4).
use Rattle.std.specs.Prelude.{ℕ, zero, suc, ◌+◌, ◌-◌, ◌*◌, ◌/◌, ◌%◌, ◌^◌, List, [], ◌∷◌, ◌++◌, take, drop, bit_and}
use Rattle.std.specs.Prelude.{slice_index}
use Rattle.std.specs.Int.{w16, w32, to_be_bytes}
use Rattle.sha2.specs.Sha256.{sha256}
use Rattle.mb_model.specs.declared.key.Chains.{Chains}
use Rattle.mb_model.specs.signatures.Key.{digit_bits, chain_count, checksum_shift}

-- D_MESG and D_PBLC, domain separators of the hash (7.1)
abbrev pub message_mark : List ℕ
message_mark = 0x81 ∷ 0x81 ∷ []

abbrev pub one_time_key_mark : List ℕ
one_time_key_mark = 0x80 ∷ 0x80 ∷ []

-- coef: the digit with this number in the bytes, each digit of `width` bits (3.1.3)
unfoldable pub coef : List ℕ → ℕ → ℕ → ℕ
coef bytes number width =
    bit_and (2 ^ width - 1)
    (slice_index bytes (number * width / 8) / 2 ^ (8 - (width * (number % (8 / width)) + width)))

-- how far the first digits, as many as `count` says, fall short of the greatest digit, in all
unfoldable pub shortfall : List ℕ → ℕ → ℕ → ℕ
shortfall bytes width zero = 0
shortfall bytes width (suc count) = shortfall bytes width count + (2 ^ width - 1 - coef bytes count width)

-- Cksm: the checksum of a hash (4.4)
unfoldable pub checksum : Chains → List ℕ → ℕ
checksum chains hash =
    shortfall hash (digit_bits chains) (256 / digit_bits chains) * 2 ^ checksum_shift chains

-- the digits that a signature signs: those of the hash, and then those of its checksum (4.5)
unfoldable pub digits_of : Chains → List ℕ → List ℕ
digits_of chains hash = hash ++ to_be_bytes w16 (checksum chains hash)

-- Q: the hash of a text (4.5)
unfoldable pub message_hash : List ℕ → ℕ → List ℕ → List ℕ → List ℕ
message_hash id leaf randomizer text = sha256 (id ++ to_be_bytes w32 leaf ++ message_mark ++ randomizer ++ text)

-- one step of a chain (4.3)
unfoldable pub chain_step : List ℕ → ℕ → ℕ → ℕ → List ℕ → List ℕ
chain_step id leaf chain step value = sha256 (id ++ to_be_bytes w32 leaf ++ to_be_bytes w16 chain ++ step ∷ value)

-- a value taken through this many steps of a chain, from step `first` on
unfoldable pub value_after_count : List ℕ → ℕ → ℕ → ℕ → ℕ → List ℕ → List ℕ
value_after_count id leaf chain first zero value = value
value_after_count id leaf chain first (suc count) value =
    chain_step id leaf chain (first + count) (value_after_count id leaf chain first count value)

-- a value taken through the steps of a chain from `first` up to but not including `end`; the value itself if `first` is
-- not below `end`
abbrev pub value_after_steps : List ℕ → ℕ → ℕ → ℕ → ℕ → List ℕ → List ℕ
value_after_steps id leaf chain first end value = value_after_count id leaf chain first (end - first) value

-- the value of 32 bytes with this number in a list of such values
abbrev pub value_at : List ℕ → ℕ → List ℕ
value_at values number = take 32 (drop (32 * number) values)

-- z[0] to z[count - 1]: the values of the first chains, each taken from its digit to its chain's end (4.6)
unfoldable pub chain_ends : List ℕ → ℕ → ℕ → List ℕ → List ℕ → ℕ → List ℕ
chain_ends id leaf width digits values zero = []
chain_ends id leaf width digits values (suc count) =
    chain_ends id leaf width digits values count
    ++ value_after_steps id leaf count (coef digits count width) (2 ^ width - 1) (value_at values count)

-- K: the one-time key to which digits and chain values belong (4.6)
unfoldable pub one_time_key : Chains → List ℕ → ℕ → List ℕ → List ℕ → List ℕ
one_time_key chains id leaf digits values =
    sha256 (id ++ to_be_bytes w32 leaf ++ one_time_key_mark
    ++ chain_ends id leaf (digit_bits chains) digits values (chain_count chains))
