-- What carries out `endorse`.
use Rattle.std.proofs.Common.{◌≡◌, ℕ, ◌^◌, List, [], ◌∷◌, ◌++◌, Result, Err, refl, sym, ◌∙◌, ap, subst, arith}
use Rattle.std.specs.Global.{Vec}
use Rattle.mb_model.specs.outside.Board.{Held, not_used}
use Rattle.mb_model.specs.declared.key.PublicKey.{PublicKey}
use Rattle.mb_model.specs.signatures.Key.{key_bytes}
use Rattle.mb_model_commands.specs.declared.role.Role.TheVariants as role
use Rattle.mb_model_commands.specs.Outside.{Outside}
use Rattle.mb_model_commands.specs.Sign.{index_text}
use Rattle.mb_model_commands.specs.Commands.{Output, Command, print, Past, at_first}
use Rattle.mb_hss.specs.declared.maker.Maker.{Maker}
use Rattle.mb_hss.specs.declared.signing.HssEnd.{HssEnd}
use Rattle.mb_hss.specs.declared.signing.HssEnd.TheVariants as cause
use Rattle.mb_hss.specs.MakerFormat.{maker_format}
use Rattle.mb_hss.specs.MakerSignatures.{maker_signature, Signs, SignsOnto}
use Rattle.mb_console.specs.declared.end.End.{End}
use Rattle.mb_console.specs.declared.end.End.TheVariants as end
use Rattle.mb_console.specs.Ending.{CarriesOutRest, CarriesOutAfter, CarriesOut, LeadsTo}
use Rattle.mb_console.specs.Outputs.{writes}
use Rattle.mb_console.proofs.CommandLemmas.{memory_here}
use Rattle.mb_console.proofs.Leading.{chooses_first, chooses_second, is_refused, lacks_memory}
use Rattle.mb_tools_hss.specs.declared.endorse.TheConstants.{ENDORSED_TEXT}
use Rattle.mb_tools_hss.specs.Endorse.{EndorseNames, endorsed_text, use_number, endorse_root}
use Rattle.mb_tools_hss.specs.Unendorsed.{TellsUnendorsed}

abbrev pub endorsement_outputs : EndorseNames → List ℕ → List ℕ → List Output
endorsement_outputs names file signature =
    record { role = role.Key; name = names.key; bytes = file } ∷ record { role = role.Out; name = names.out; bytes = signature } ∷ []

-- the maker's file with the number used and the signature were written, and the number was told
pub endorsement_written : (names : EndorseNames) (maker after : Maker) (root : PublicKey) (index : ℕ) (file signature text : List ℕ) (before now : Outside) (result : Result (Unit {0}) End)
    → Signs maker (endorsed_text root) signature after → index ≡ maker.next → file ≡ maker_format.spelling after → text ≡ index_text index
    → CarriesOutAfter (writes (endorsement_outputs names file signature) (print text)) before result now
    → CarriesOut (use_number names maker root) before result now
unfolding writes use_number
endorsement_written names maker after root index file signature text before now result signs is_index is_file is_text carried = λ final.
    (subst (λ f. CarriesOutAfter (writes (endorsement_outputs names f (maker_signature maker maker.next (endorsed_text root))) (print (index_text maker.next))) before result now) (is_file ∙ ap maker_format.spelling signs.counted)
    (subst (λ s. CarriesOutAfter (writes (endorsement_outputs names file s) (print (index_text maker.next))) before result now) signs.signature
    (subst (λ t. CarriesOutAfter (writes (endorsement_outputs names file signature) (print t)) before result now) (is_text ∙ ap index_text is_index) carried))) at_first final

-- an allocation for the line failed
pub endorsement_lacks : (names : EndorseNames) (maker : Maker) (root : PublicKey) (before : Outside) → CarriesOut (use_number names maker root) before (Err end.NoMemory) before
unfolding use_number
endorsement_lacks names maker root before = λ final. memory_here _ _ at_first not_used final before refl refl

-- what was appended to no bytes is the signature of the root key
pub signed_root : (maker after : Maker) (root : PublicKey) (body : List ℕ) (old new : Vec ℕ) → body ≡ key_bytes root → old.items ≡ []
    → SignsOnto maker (ENDORSED_TEXT ∷ body) old new after → Signs maker (endorsed_text root) new.items after
signed_root maker after root body old new is_body none signs =
    let is : signs.signature ≡ new.items = sym (signs.appends.items ∙ ap (λ l. l ++ signs.signature) none) in
    subst (λ (b : List ℕ). Signs maker (ENDORSED_TEXT ∷ b) new.items after) is_body
    (subst (λ (s : List ℕ). Signs maker (ENDORSED_TEXT ∷ body) s after) is signs.signs)

-- the maker signed the root key
pub root_signed : {final : Held} {whole : Command} {past : Past} {before mid : Outside} (names : EndorseNames) (maker after : Maker) (root : PublicKey) (signature : List ℕ)
    (result : Result (Unit {0}) End) (now : Outside) → LeadsTo not_used final whole past before (endorse_root names maker root) at_first mid
    → Signs maker (endorsed_text root) signature after → CarriesOut (use_number names maker root) mid result now → CarriesOutRest whole past not_used final before result now
unfolding endorse_root
root_signed {final = final} names maker after root signature result now leads signs carried =
    (chooses_second leads (λ spent. omega (arith, spent, signs.left))).lead result now (carried final)

-- it did not
pub root_not_signed : {final : Held} {whole : Command} {past : Past} {before mid : Outside} (names : EndorseNames) (maker : Maker) (root : PublicKey) (why_not : HssEnd) (why : End)
    → LeadsTo not_used final whole past before (endorse_root names maker root) at_first mid → (why_not ≡ cause.Spent → maker.next ≡ 32 ^ maker.levels) → TellsUnendorsed why_not why
    → CarriesOutRest whole past not_used final before (Err why) mid
unfolding endorse_root
root_not_signed names maker root cause.Spent why leads spent tells = is_refused (chooses_first leads (spent refl)) refl why tells
root_not_signed names maker root cause.NoMemory why leads spent tells = rw tells (lacks_memory leads tt refl refl)
