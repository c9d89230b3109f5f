-- What carries out `factory`.
use Rattle.std.proofs.Common.{◌≡◌, ℕ, List, [], ◌∷◌, Result, Err, refl, ◌∙◌, ap, subst}
use Rattle.mb_model.specs.outside.Board.{Held, not_used}
use Rattle.mb_model.specs.declared.key.PublicKey.{PublicKey}
use Rattle.mb_model.specs.declared.tools.Keyfile.{Keyfile}
use Rattle.mb_model.specs.records.KeyFormat.{keyfile_format}
use Rattle.mb_model.specs.machine.SignedOrders.{keyfile_after_use}
use Rattle.mb_model.specs.memories.Factory.{IsFactoryImage}
use Rattle.mb_model_commands.specs.declared.role.Role.TheVariants as role
use Rattle.mb_model_commands.specs.Outside.{Outside}
use Rattle.mb_model_commands.specs.Commands.{Output, Command, print, Past, at_first}
use Rattle.mb_model_commands.specs.FactoryCommand.{FactoryNames, serial_text, write_device, make_device}
use Rattle.mb_officer.specs.declared.signing.SignEnd.{SignEnd}
use Rattle.mb_officer.specs.declared.signing.SignEnd.TheVariants as sign
use Rattle.mb_console.specs.declared.end.End.{End}
use Rattle.mb_console.specs.declared.end.End.TheVariants as end
use Rattle.mb_console.specs.Ending.{CarriesOutRest, CarriesOutAfter, CarriesOut, LeadsTo}
use Rattle.mb_tools.specs.Signing.{TellsUnsigned}
use Rattle.mb_console.specs.Outputs.{writes}
use Rattle.mb_console.proofs.CommandLemmas.{memory_here}
use Rattle.mb_console.proofs.Leading.{finds, chooses_first, chooses_second, is_refused, lacks_memory}

abbrev pub outputs_of : FactoryNames → List ℕ → List ℕ → List Output
outputs_of names file image =
    record { role = role.Key; name = names.key; bytes = file } ∷ record { role = role.Image; name = names.image; bytes = image } ∷ []

-- the used key and the image were written, and the serial was told
pub device_written : (names : FactoryNames) (noise : List ℕ) (before key : Keyfile) (image file bytes text : List ℕ) (outside now : Outside) (result : Result (Unit {0}) End)
    → key ≡ keyfile_after_use before → file ≡ keyfile_format.spelling key → bytes ≡ image → text ≡ serial_text noise
    → CarriesOutAfter (writes (outputs_of names file bytes) (print text)) outside result now
    → CarriesOut (write_device names noise before image) outside result now
unfolding writes write_device
device_written names noise before key image file bytes text outside now result is_key is_file is_bytes is_text carried = λ final.
    (subst (λ f. CarriesOutAfter (writes (outputs_of names f image) (print (serial_text noise))) outside result now) (is_file ∙ ap keyfile_format.spelling is_key)
    (subst (λ b. CarriesOutAfter (writes (outputs_of names file b) (print (serial_text noise))) outside result now) is_bytes
    (subst (λ t. CarriesOutAfter (writes (outputs_of names file bytes) (print t)) outside result now) is_text carried))) at_first final

-- an allocation for the line failed
pub device_lacks : (names : FactoryNames) (noise : List ℕ) (before : Keyfile) (image : List ℕ) (outside : Outside)
    → CarriesOut (write_device names noise before image) outside (Err end.NoMemory) outside
unfolding write_device
device_lacks names noise before image outside = λ final. memory_here _ _ at_first not_used final outside refl refl

-- ---- by the maker's key

-- the maker's key signed the birth
pub device_made : {final : Held} {whole : Command} {past : Past} {before mid : Outside}
    (names : FactoryNames) (noise : List ℕ) (key used : Keyfile) (owner : PublicKey) (code image : List ℕ) (result : Result (Unit {0}) End) (now : Outside)
    → LeadsTo not_used final whole past before (make_device names noise key owner code) at_first mid
    → used ≡ keyfile_after_use key → IsFactoryImage key.seed key.next owner code noise image → (key.next ≡ 32 → ⊥)
    → ((old : Keyfile) → used ≡ keyfile_after_use old → CarriesOut (write_device names noise old image) mid result now)
    → CarriesOutRest whole past not_used final before result now
unfolding make_device
device_made {final = final} names noise key used owner code image result now leads is_used made left carried =
    (finds (chooses_second leads left) image made).lead result now (carried key is_used final)

-- it did not
pub device_not_made : {final : Held} {whole : Command} {past : Past} {before mid : Outside}
    (names : FactoryNames) (noise : List ℕ) (key : Keyfile) (owner : PublicKey) (code : List ℕ) (cause : SignEnd) (why : End)
    → LeadsTo not_used final whole past before (make_device names noise key owner code) at_first mid
    → (cause ≡ sign.Spent → key.next ≡ 32) → (cause ≡ sign.NotCountersignable → ⊥) → TellsUnsigned cause why → CarriesOutRest whole past not_used final before (Err why) mid
unfolding make_device
device_not_made names noise key owner code sign.Spent why leads spent never tells = is_refused (chooses_first leads (spent refl)) refl why tells
device_not_made names noise key owner code sign.NotCountersignable why leads spent never tells = absurd (never refl)
device_not_made names noise key owner code sign.NoMemory why leads spent never tells = rw tells (lacks_memory leads tt refl refl)
