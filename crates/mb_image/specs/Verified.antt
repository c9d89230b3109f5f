-- Which entries of a log are verified. Is the birth alone left out, which the maker's key signed?
use Rattle.std.specs.Prelude.{◌≢◌}
use Rattle.mb_model.specs.declared.entry.SignedEntry.{SignedEntry}
use Rattle.mb_model.specs.declared.state.Figures.{Figures}
use Rattle.mb_model.specs.machine.SignedTexts.{entry_text, IsSignedBy}

-- an entry after others is signed by the device key that they name last
abbrev pub IsVerified : Figures → SignedEntry → Type 0
IsVerified before signed = before.length ≢ 0 → IsSignedBy before.device (entry_text signed.entry) signed.signature
