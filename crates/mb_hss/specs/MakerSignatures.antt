-- What a maker signs, and the bytes of its signatures (RFC 8554, section 6.2).
use Rattle.std.specs.Prelude.{◌≡◌, ℕ, zero, suc, ◌+◌, ◌-◌, ◌^◌, ◌<◌, ◌==◌, List, [], ◌++◌, if◌then◌else◌}
use Rattle.std.specs.Int.{w32, to_be_bytes}
use Rattle.std.specs.Global.{Vec}
use Rattle.mb_model.specs.signatures.Signing.{signature_of}
use Rattle.mb_bytes.specs.Puts.{Appends}
use Rattle.mb_hss.specs.declared.maker.Maker.{Maker}
use Rattle.mb_hss.specs.MakerKeys.{index_at, key_at, public_at}

-- what the key of a level signs for a number: the key of the next level, or at the last level the text
abbrev pub text_at : Maker → ℕ → List ℕ → ℕ → List ℕ
text_at maker number text level = if level + 1 == maker.levels then text else public_at maker number (level + 1)

-- the signature of a level
abbrev pub signature_at : Maker → ℕ → List ℕ → ℕ → List ℕ
signature_at maker number text level =
    signature_of (key_at maker number level) (index_at maker.levels number level) (text_at maker number text level)

-- the signatures of the first n levels, each followed by the key of the next level
unfoldable pub upper_levels : Maker → ℕ → List ℕ → ℕ → List ℕ
upper_levels maker number text zero = []
upper_levels maker number text (suc n) =
    upper_levels maker number text n ++ signature_at maker number text n ++ public_at maker number (n + 1)

-- the signature of a text with a number: the count of levels below the first, the upper levels, and the last level
unfoldable pub maker_signature : Maker → ℕ → List ℕ → List ℕ
maker_signature maker number text =
    to_be_bytes w32 (maker.levels - 1) ++ upper_levels maker number text (maker.levels - 1)
    ++ signature_at maker number text (maker.levels - 1)

-- the maker signs a text with its next number, and then has one number fewer left
pub record Signs (maker : Maker) (text sig : List ℕ) (after : Maker) : Type 0 where
  pub left : maker.next < 32 ^ maker.levels
  pub signature : sig ≡ maker_signature maker maker.next text
  pub counted : after ≡ record maker { next = maker.next + 1 }

-- the maker signs a text, and the signature is appended
pub record SignsOnto (maker : Maker) (text : List ℕ) (old new : Vec ℕ) (after : Maker) : Type 0 where
  pub signature : List ℕ
  pub signs : Signs maker text signature after
  pub appends : Appends signature old new

-- nothing has changed: the maker, the bytes, and the count of hashes
pub record IsUnsigned (maker after : Maker) (old new : Vec ℕ) (hashes later : ℕ) : Type 0 where
  pub maker_same : after ≡ maker
  pub bytes_same : new.items ≡ old.items
  pub hashes_same : later ≡ hashes
