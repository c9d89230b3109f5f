-- What bytes that spell a public key of HSS are.
use Rattle.std.proofs.Common.{◌≡◌, ℕ, ◌≤◌, List, ◌++◌, sym, ap, ◌∙◌}
use Rattle.std.specs.Int.{w32, to_be_bytes}
use Rattle.mb_format.specs.Combinators.{number_bytes}
use Rattle.mb_model.specs.signatures.Key.{key_bytes}
use Rattle.std.specs.Prelude.{IfOk, Result, Ok, Err}
use Rattle.mb_model.specs.declared.tools.BadRecord.{BadRecord}
use Rattle.mb_bytes.specs.Reads.{bad_at, ReadsWhole}
use Rattle.mb_model.proofs.KeyFormatLaws.{public_key_spelling}
use Rattle.mb_hss.specs.declared.key.HssKey.{HssKey}
use Rattle.mb_hss.specs.HssKeyFormat.{hss_key_format}

-- a key that is read has 1 to 8 levels
pub read_levels : (bytes : List ℕ) (r : Result HssKey BadRecord) → ReadsWhole bad_at hss_key_format bytes r → IfOk r (λ key. (1 ≤ key.levels) × (key.levels ≤ 8))
unfolding hss_key_format
read_levels bytes (Ok key) spells = spells.allowed.0
read_levels bytes (Err bad) fails = tt

-- the number of levels and the key in a row
pub key_spelling : (bytes count top : List ℕ) (key : HssKey) → count ≡ to_be_bytes w32 key.levels → top ≡ key_bytes key.top →
    bytes ≡ count ++ top → bytes ≡ hss_key_format.spelling key
unfolding hss_key_format number_bytes
key_spelling bytes count top key first second e =
    e ∙ ap (λ (x : List ℕ). x ++ top) first ∙ ap (λ (x : List ℕ). to_be_bytes w32 key.levels ++ x) (second ∙ sym (public_key_spelling key.top))
