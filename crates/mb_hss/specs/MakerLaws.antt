-- Laws of a maker's signatures, each proved on a public function. Do they verify, and does an index of a key ever sign
-- two texts?
use Rattle.std.specs.Prelude.{◌≡◌, ℕ, ◌+◌, ◌<◌, ◌^◌, List, [], ◌∷◌, ◌++◌, length}
use Rattle.mb_hss.specs.declared.maker.Maker.{Maker}
use Rattle.mb_hss.specs.HssVerification.{HssVerifies}
use Rattle.mb_hss.specs.MakerKeys.{IsMaker, prefix_at, index_at, maker_key}
use Rattle.mb_hss.specs.MakerSignatures.{text_at, maker_signature, Signs}

-- what a maker signs verifies under its public key
abbrev pub MakersSignaturesVerify : Type 0
MakersSignaturesVerify =
    (maker after : Maker) (text sig : List ℕ) → IsMaker maker → Signs maker text sig after
    → HssVerifies (maker_key maker) text sig

-- a call in which a maker signs: the number that it answers, the text, and the signature
pub record SignCall : Type 0 where
  pub number : ℕ
  pub text : List ℕ
  pub signature : List ℕ

-- the maker signs in these calls, one after another
abbrev pub SignsAll : Maker → List SignCall → Maker → Type 0
SignsAll maker [] after = after ≡ maker
SignsAll maker (call ∷ calls) after =
    (next : Maker) × (call.number ≡ maker.next) × Signs maker call.text call.signature next × SignsAll next calls after

-- Numbers count up from the maker's next one, stay below 32^levels, and each gives the signature of its number.
abbrev pub NumbersCountUp : Type 0
NumbersCountUp =
    (maker after : Maker) (before later : List SignCall) (call : SignCall)
    → SignsAll maker (before ++ call ∷ later) after
    → (call.number ≡ maker.next + length before) × (call.number < 32 ^ maker.levels)
    × (call.signature ≡ maker_signature maker call.number call.text)

-- two numbers use one index of one key at a level
pub record UseOneIndex (levels first second level : ℕ) : Type 0 where
  pub prefix : prefix_at levels first level ≡ prefix_at levels second level
  pub index : index_at levels first level ≡ index_at levels second level

-- If two calls use one index of one key at a level, it is not the last level, and both sign the same text there. It
-- speaks of a list of calls, split at two of them: with offsets from the first call, the premise that the calls were
-- made says nothing.
abbrev pub IndicesServeOneText : Type 0
IndicesServeOneText =
    (maker after : Maker) (before between later : List SignCall) (first second : SignCall) (level : ℕ)
    → SignsAll maker (before ++ first ∷ between ++ second ∷ later) after → level < maker.levels
    → UseOneIndex maker.levels first.number second.number level
    → (level + 1 < maker.levels)
    × (text_at maker first.number first.text level ≡ text_at maker second.number second.text level)
