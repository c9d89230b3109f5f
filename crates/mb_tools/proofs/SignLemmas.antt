-- What carries out `sign` and `countersign`.
use Rattle.std.proofs.Common.{◌≡◌, ℕ, List, [], ◌∷◌, codes, Result, Ok, Err, IsErrOf, refl, ◌∙◌, ap, subst}
use Rattle.mb_model.specs.outside.Board.{Held, not_used}
use Rattle.mb_model.specs.declared.order.Order.{Order}
use Rattle.mb_model.specs.declared.tools.Keyfile.{Keyfile}
use Rattle.mb_model.specs.records.KeyFormat.{keyfile_format}
use Rattle.mb_model.specs.outside.Texts.{line_with_lf}
use Rattle.mb_model.specs.chains.OrderLines.{order_line}
use Rattle.mb_model.specs.machine.SignedOrders.{keyfile_after_use, countersigned_order, IsCountersignable}
use Rattle.mb_model_commands.specs.declared.role.Role.TheVariants as role
use Rattle.mb_model_commands.specs.Outside.{Outside}
use Rattle.mb_model_commands.specs.Commands.{Output, Command, either_command, print, refuse, Past, at_first}
use Rattle.mb_model_commands.specs.Sign.{CountersignNames, index_text, use_index, sign_by}
use Rattle.mb_officer.specs.declared.signing.SignEnd.{SignEnd}
use Rattle.mb_officer.specs.declared.signing.SignEnd.TheVariants as sign
use Rattle.mb_console.specs.declared.end.End.{End}
use Rattle.mb_console.specs.declared.end.End.TheVariants as end
use Rattle.mb_console.specs.Ending.{CarriesOutRest, CarriesOutAfter, CarriesOut, LeadsTo}
use Rattle.mb_tools.specs.Signing.{TellsUnsigned}
use Rattle.mb_console.specs.Outputs.{writes}
use Rattle.mb_console.proofs.CommandLemmas.{memory_here}
use Rattle.mb_console.proofs.Leading.{chooses_first, chooses_second, is_refused, lacks_memory}

abbrev pub outputs_of : List ℕ → List ℕ → List ℕ → List ℕ → List Output
outputs_of key_name out_name file line =
    record { role = role.Key; name = key_name; bytes = file } ∷ record { role = role.Out; name = out_name; bytes = line } ∷ []

-- the used key and the signed order were written, and the index was told
pub index_used : (key_name out_name : List ℕ) (before key : Keyfile) (order : Order) (index : ℕ) (file line text : List ℕ) (outside now : Outside) (result : Result (Unit {0}) End)
    → key ≡ keyfile_after_use before → index ≡ before.next → file ≡ keyfile_format.spelling key → line ≡ line_with_lf (order_line order) → text ≡ index_text index
    → CarriesOutAfter (writes (outputs_of key_name out_name file line) (print text)) outside result now
    → CarriesOut (use_index key_name out_name before order) outside result now
unfolding writes use_index
index_used key_name out_name before key order index file line text outside now result is_key is_index is_file is_line is_text carried = λ final.
    (subst (λ f. CarriesOutAfter (writes (outputs_of key_name out_name f (line_with_lf (order_line order))) (print (index_text before.next))) outside result now) (is_file ∙ ap keyfile_format.spelling is_key)
    (subst (λ l. CarriesOutAfter (writes (outputs_of key_name out_name file l) (print (index_text before.next))) outside result now) is_line
    (subst (λ t. CarriesOutAfter (writes (outputs_of key_name out_name file line) (print t)) outside result now) (is_text ∙ ap index_text is_index) carried))) at_first final

-- an allocation for the lines failed
pub index_lacks : (key_name out_name : List ℕ) (before : Keyfile) (order : Order) (outside : Outside) → CarriesOut (use_index key_name out_name before order) outside (Err end.NoMemory) outside
unfolding use_index
index_lacks key_name out_name before order outside = λ final. memory_here _ _ at_first not_used final outside refl refl

-- ---- by a key

-- an order that was signed is no error
pub never_both : {E : Type 0} {e : E} (index : ℕ) → IsErrOf (Ok index) e → ⊥
never_both index is = cc

-- the key signed
pub key_signed : {final : Held} {whole : Command} {past : Past} {before mid : Outside}
    (key_name out_name : List ℕ) (key used : Keyfile) (order signed : Order) (index : ℕ) (result : Result (Unit {0}) End) (now : Outside)
    → LeadsTo not_used final whole past before (sign_by key_name out_name key order) at_first mid → (key.next ≡ 32 → ⊥)
    → used ≡ keyfile_after_use key → index ≡ key.next → signed ≡ order
    → ((old : Keyfile) → used ≡ keyfile_after_use old → index ≡ old.next → CarriesOut (use_index key_name out_name old signed) mid result now)
    → CarriesOutRest whole past not_used final before result now
unfolding sign_by
key_signed {final = final} {mid = mid} key_name out_name key used order signed index result now leads left is_used is_index is_signed carried =
    (chooses_second leads left).lead result now (subst (λ o. CarriesOut (use_index key_name out_name key o) mid result now) is_signed (carried key is_used is_index) final)

-- it did not
pub key_not_signed : {final : Held} {whole : Command} {past : Past} {before mid : Outside} (key_name out_name : List ℕ) (key : Keyfile) (order : Order) (cause : SignEnd) (why : End)
    → LeadsTo not_used final whole past before (sign_by key_name out_name key order) at_first mid → (cause ≡ sign.Spent → key.next ≡ 32) → (cause ≡ sign.NotCountersignable → ⊥)
    → TellsUnsigned cause why → CarriesOutRest whole past not_used final before (Err why) mid
unfolding sign_by
key_not_signed key_name out_name key order sign.Spent why leads spent never tells = is_refused (chooses_first leads (spent refl)) refl why tells
key_not_signed key_name out_name key order sign.NotCountersignable why leads spent never tells = absurd (never refl)
key_not_signed key_name out_name key order sign.NoMemory why leads spent never tells = rw tells (lacks_memory leads tt refl refl)

-- ---- of an order that can or cannot take a countersignature

pub order_not_signed : {final : Held} {whole : Command} {past : Past} {before mid : Outside} (names : CountersignNames) (key : Keyfile) (found : Order) (cause : SignEnd) (why : End)
    → LeadsTo not_used final whole past before
    (either_command (IsCountersignable found names.layer → ⊥) (refuse (codes "not countersignable")) (sign_by names.key names.out key (countersigned_order key names.layer found))) at_first mid
    → (cause ≡ sign.Spent → IsCountersignable found names.layer × (key.next ≡ 32))
    → (cause ≡ sign.NotCountersignable → IsCountersignable found names.layer → ⊥) → TellsUnsigned cause why → CarriesOutRest whole past not_used final before (Err why) mid
order_not_signed names key found sign.Spent why leads spent never tells =
    key_not_signed _ _ key _ sign.Spent why (chooses_second leads (λ cannot. cannot (spent refl).0)) (λ is. (spent is).1) (λ is. cc) tells
order_not_signed names key found sign.NotCountersignable why leads spent never tells = is_refused (chooses_first leads (never refl)) refl why tells
order_not_signed names key found sign.NoMemory why leads spent never tells = rw tells (lacks_memory leads tt refl refl)
