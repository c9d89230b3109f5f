-- What a call of `sign`, `countersign` or `cosign` leaves of the files.
use Rattle.std.proofs.Common.{◌≡◌, ◌≢◌, ◌<◌, ◌≤◌, ◌⊎◌, ℕ, ◌+◌, List, [], ◌∷◌, ◌++◌, codes, Bool, inl, inr, Option, Some, true, false, true≢false, refl, sym, ap, ◌∙◌, subst, arith}
use Rattle.std.specs.Prelude.{◌==◌, if◌then◌else◌, All, AllPairs}
use Rattle.std.proofs.lemmas.List.Elements.{All-nil, All-cons, All-head}
use Rattle.std.proofs.lemmas.List.Kept.{AllPairs-cons}
use Rattle.std.proofs.lemmas.Option.{same_Some}
use Rattle.mb_format.specs.Format.{Spells, IsClearWhole}
use Rattle.mb_format.proofs.Whole.{IsClearWhole-from_exact}
use Rattle.mb_model.specs.declared.order.Order.{Order}
use Rattle.mb_model.specs.declared.tools.Keyfile.{Keyfile}
use Rattle.mb_model.specs.records.KeyFormat.{keyfile_format}
use Rattle.mb_model.specs.records.OrderFormat.{order_body}
use Rattle.mb_model.specs.signatures.Signing.{signature_of}
use Rattle.mb_model.specs.chains.Lines.{ReadsLines}
use Rattle.mb_model.specs.chains.Drafts.{IsDraft}
use Rattle.mb_model.specs.chains.OrderLines.{order_line}
use Rattle.mb_model.specs.machine.SignedTexts.{countersigned_text}
use Rattle.mb_model.specs.machine.SignedOrders.{keyfile_after_use, signed_order, with_countersignature, countersigned_order, IsCountersignable}
use Rattle.mb_model.specs.outside.Texts.{line_with_lf}
use Rattle.mb_model.proofs.KeyFormatLaws.{keyfile_exact}
use Rattle.mb_model_commands.specs.declared.role.Role.{Role}
use Rattle.mb_model_commands.specs.declared.role.Role.TheVariants as role
use Rattle.mb_model_commands.specs.Commands.{Input, Command, read, either_command, write, print, refuse, HasRead, Past, Ended, end_seen_from, SaysLine, Stops, InputEnds, input_is_too_long, input_is_faulty, input_is_not_read, memory_lacks, text_is_printed, text_is_not_printed, CommandEnds, at_first}
use Rattle.mb_model_commands.specs.Inputs.{key_input, draft_input, order_input}
use Rattle.mb_model_commands.specs.Outside.{Outside, read_once, FailsToRead, by_fault, by_absence}
use Rattle.mb_model_commands.specs.Sign.{CountersignNames, index_text, use_index, sign_by, sign, countersign}
use Rattle.mb_model_commands.specs.Cosign.{CosignNames, cosign}
use Rattle.mb_model_lemmas.proofs.ListLemmas.{pairs_head}
use Rattle.mb_model_lemmas.proofs.LineLemmas.{HasLines-same}
use Rattle.mb_model_lemmas.proofs.DraftLemmas.{IsDraft-same}
use Rattle.mb_model_histories.specs.KeyFileLaws.{Files, LeavesKey, nothing_is_written, key_is_not_written, index_is_used, SigningUsesUpItsIndex, CountersigningUsesUpItsIndex, IsCosigned, CosigningSignsTheDraft, KeyCommand, by_sign, by_countersign, by_cosign, key_name_of, out_name_of, EndsSo, KeyCall, NothingIsSignedWithoutAnIndex, CallsInTurn, indices_used, IndicesInTurnDiffer, OldKeysSignAgain}

-- ---- ends without a write

said_files : (line : List ℕ) (before after : Outside) → SaysLine line before after → after.files ≡ before.files
said_files line before after (inl prints) = ap (λ (o : Outside). o.files) prints.stays
said_files line before after (inr fails) = ap (λ (o : Outside). o.files) fails.stays

pub stopped_files : (line : List ℕ) (status : ℕ) (past : Past) (ending : Ended) → Stops line status past ending → ending.after.files ≡ ending.before.files
stopped_files line status past ending stops = said_files line ending.before ending.after stops.says

pub unread_files : (name : List ℕ) (before after : Outside) → FailsToRead name before after → after.files ≡ before.files
unread_files name before after (by_fault is) = ap (λ (o : Outside). o.files) is
unread_files name before after (by_absence none is) = ap (λ (o : Outside). o.files) is

input_files : {A : Type 0} (input : Input A) (past : Past) (ending : Ended) → InputEnds input past ending → ending.after.files ≡ ending.before.files
input_files input past ending (input_is_too_long held stops) = stopped_files _ 3 past _ stops
input_files input past ending (input_is_faulty bytes has place fault stops) = stopped_files _ 3 past _ stops
input_files input past ending (input_is_not_read mid fails stops) = stopped_files _ 4 past _ stops ∙ unread_files input.name ending.before mid fails
input_files input past ending (memory_lacks wants) = stopped_files _ 6 past _ wants.stops

printed_files : (text : List ℕ) (past : Past) (ending : Ended) → past.wrote ≡ true → CommandEnds (print text) past ending → (ending.after.files ≡ ending.before.files)
unfolding CommandEnds
printed_files text past ending wrote (inl (text_is_printed prints used status)) = ap (λ (o : Outside). o.files) prints.stays
printed_files text past ending wrote (inl (text_is_not_printed mid fails stops)) = stopped_files _ 5 past _ stops ∙ ap (λ (o : Outside). o.files) fails.stays
printed_files text past ending wrote (inr wants) = absurd (true≢false (sym wrote ∙ wants.first))

-- ---- files by name

-- the files of one name apart
abbrev pub ButFor : List ℕ → Files → Files → Type 0
ButFor name before after = (other : List ℕ) → other ≢ name → after other ≡ before other

pub same_files : (before after : Files) (o p : Option Files) → o ≡ Some before → p ≡ Some after → p ≡ o → (name : List ℕ) → after name ≡ before name
same_files before after o p is_before is_after same name =
    let equal : after ≡ before = same_Some after before (sym is_after ∙ same ∙ is_before) in
    ap (λ (f : Files). f name) equal

-- ---- the key is used

-- OUT after the key was written
pub out_left : (name text line : List ℕ) (role_of : Role) (between after : Files) (ending : Ended) → ending.before.files ≡ Some between → ending.after.files ≡ Some after
    → CommandEnds (write (record { role = role_of; name = name; bytes = line }) (print text)) (record at_first { wrote = true }) ending
    → ButFor name between after × ((after name ≡ Some line) ⊎ (ending.status ≡ 5))
unfolding CommandEnds
out_left name text line role_of between after ending is_between is_after (inl ends) =
    let kept = ends.fails.others between is_between in
    let same : after ≡ kept.0 = same_Some after kept.0 (sym is_after ∙ stopped_files _ 5 _ _ ends.stops ∙ kept.1) in
    (λ other apart. ap (λ (f : Files). f other) same ∙ kept.2 other apart, inr ends.stops.status_is)
out_left name text line role_of between after ending is_between is_after (inr (inl (mid, writes, rest))) =
    let kept = writes.others between is_between in
    let printed : ending.after.files ≡ mid.files = printed_files text (record at_first { wrote = true }) (end_seen_from mid ending) refl rest in
    let same : after ≡ kept.0 = same_Some after kept.0 (sym is_after ∙ printed ∙ kept.1) in
    (λ other apart. ap (λ (f : Files). f other) same ∙ kept.2 other apart, inl (ap (λ (f : Files). f name) same ∙ writes.holds kept.0 kept.1))
out_left name text line role_of between after ending is_between is_after (inr (inr wants)) = absurd (true≢false wants.first)

module _ (key_name out_name : List ℕ) (key : Keyfile) (Made : Order → Type 0) (allowed : keyfile_format.Allowed key) (apart : out_name ≢ key_name) (before after : Files) where
  next_allowed : key.next ≢ 32 → keyfile_format.Allowed (keyfile_after_use key)
  unfolding keyfile_format
  next_allowed left = (allowed.0, (allowed.1.0, (omega arith, omega (arith, allowed.1.1.1, left))))

  use_leaves : (order : Order) (ending : Ended) → Made order → key.next ≢ 32 → ending.before.files ≡ Some before → ending.after.files ≡ Some after
      → CommandEnds (use_index key_name out_name key order) at_first ending → LeavesKey key_name out_name key Made before after ending.status
  unfolding CommandEnds use_index
  use_leaves order ending made left is_before is_after (inl ends) =
      let kept = ends.fails.others before is_before in
      let same : after ≡ kept.0 = same_Some after kept.0 (sym is_after ∙ stopped_files _ 5 at_first _ ends.stops ∙ kept.1) in
      key_is_not_written (λ name other. ap (λ (f : Files). f name) same ∙ kept.2 name other) ends.stops.status_is
  use_leaves order ending made left is_before is_after (inr (inr wants)) =
      nothing_is_written (same_files before after ending.before.files ending.after.files is_before is_after (stopped_files _ 6 at_first ending wants.stops))
  use_leaves order ending made left is_before is_after (inr (inl (mid, writes, rest))) =
      let kept = writes.others before is_before in
      let now : List ℕ = keyfile_format.spelling (keyfile_after_use key) in
      let out = out_left out_name (index_text key.next) (line_with_lf (order_line order)) role.Out kept.0 after (end_seen_from mid ending) kept.1 is_after rest in
      index_is_used left now (out.0 key_name (λ same. apart (sym same)) ∙ writes.holds kept.0 kept.1) (record { allowed = next_allowed left; whole = refl })
      (λ name not_key not_out. out.0 name not_out ∙ kept.2 name not_key)
      (elim (out.1) [ inl holds ↦ inl (order, made, holds) | inr failed ↦ inr failed ])

  signed_by : (order : Order) (ending : Ended) → Made order → ending.before.files ≡ Some before → ending.after.files ≡ Some after
      → CommandEnds (sign_by key_name out_name key order) at_first ending → LeavesKey key_name out_name key Made before after ending.status
  unfolding CommandEnds sign_by
  signed_by order ending made is_before is_after (inl (spent, inl stops)) =
      nothing_is_written (same_files before after ending.before.files ending.after.files is_before is_after (stopped_files _ 7 at_first ending stops))
  signed_by order ending made is_before is_after (inl (spent, inr wants)) =
      nothing_is_written (same_files before after ending.before.files ending.after.files is_before is_after (stopped_files _ 6 at_first ending wants.stops))
  signed_by order ending made is_before is_after (inr (inl (left, used))) = use_leaves order ending made left is_before is_after used
  signed_by order ending made is_before is_after (inr (inr wants)) =
      nothing_is_written (same_files before after ending.before.files ending.after.files is_before is_after (stopped_files _ 6 at_first ending wants.stops))

-- ---- the key that was read

key_clear : IsClearWhole keyfile_format
key_clear = IsClearWhole-from_exact keyfile_exact

-- the key that is read is the one that the file spells
one_key : (name bytes found : List ℕ) (key value : Keyfile) (outside : Outside) (files : Files) → outside.files ≡ Some files → files name ≡ Some bytes → Spells keyfile_format bytes key
    → HasRead outside name found → Spells keyfile_format found value → value ≡ key
one_key name bytes found key value outside files is holds spelled has other =
    let same : found ≡ bytes = same_Some found bytes (sym (has.held files is) ∙ holds) in
    key_clear.one_value found value key has.are_bytes other (subst (λ b. Spells keyfile_format b key) (sym same) spelled)

-- what is read after the key, and then done
input_read : {A : Type 0} (input : Input A) (rest : A → Command) (key_name out_name : List ℕ) (key : Keyfile) (Made : Order → Type 0) (before after : Files) (ending : Ended)
    → ending.before.files ≡ Some before → ending.after.files ≡ Some after
    → ((bytes : List ℕ) (value : A) → before input.name ≡ Some bytes → input.Is bytes value
    → (mid : Ended) → mid.before.files ≡ Some before → mid.after.files ≡ Some after → CommandEnds (rest value) at_first mid → LeavesKey key_name out_name key Made before after mid.status)
    → CommandEnds (read input rest) at_first ending → LeavesKey key_name out_name key Made before after ending.status
unfolding CommandEnds
input_read input rest key_name out_name key Made before after ending is_before is_after each (inl ends) =
    nothing_is_written (same_files before after ending.before.files ending.after.files is_before is_after (input_files input at_first ending ends))
input_read input rest key_name out_name key Made before after ending is_before is_after each (inr (bytes, has, (value, is, ends))) =
    each bytes value (has.held before is_before) is (end_seen_from (read_once ending.before) ending) is_before is_after ends

pub signing_uses_up_its_index : SigningUsesUpItsIndex
unfolding sign CommandEnds
signing_uses_up_its_index names ending before after bytes key (inl ends) is_before is_after holds spelled apart =
    nothing_is_written (same_files before after ending.before.files ending.after.files is_before is_after (input_files (key_input names.key) at_first ending ends))
signing_uses_up_its_index names ending before after bytes key (inr (found, has, (value, is, ends))) is_before is_after holds spelled apart =
    let one : value ≡ key = one_key names.key bytes found key value ending.before before is_before holds spelled has is in
    let Made : Order → Type 0 = λ made. (order : Order) × (made ≡ signed_order key order) in
    let rest = λ (k : Keyfile) (order : Order). sign_by names.key names.out k (signed_order k order) in
    input_read (draft_input names.draft) (rest key) names.key names.out key Made before after
    (end_seen_from (read_once ending.before) ending) is_before is_after
    (λ text order held means mid at_before at_after. signed_by names.key names.out key Made spelled.allowed apart before after (signed_order key order) mid (order, refl) at_before at_after)
    (subst (λ k. CommandEnds (read (draft_input names.draft) (rest k)) at_first (end_seen_from (read_once ending.before) ending)) one ends)

countersigned_by : (names : CountersignNames) (key : Keyfile) (Made : Order → Type 0) → keyfile_format.Allowed key → names.out ≢ names.key → (before after : Files) (order : Order) (ending : Ended)
    → Made (countersigned_order key names.layer order) → ending.before.files ≡ Some before → ending.after.files ≡ Some after
    → CommandEnds (either_command (IsCountersignable order names.layer → ⊥) (refuse (codes "not countersignable")) (sign_by names.key names.out key (countersigned_order key names.layer order))) at_first ending
    → LeavesKey names.key names.out key Made before after ending.status
unfolding CommandEnds
countersigned_by names key Made allowed apart before after order ending made is_before is_after (inl (not_so, inl stops)) =
    nothing_is_written (same_files before after ending.before.files ending.after.files is_before is_after (stopped_files _ 7 at_first ending stops))
countersigned_by names key Made allowed apart before after order ending made is_before is_after (inl (not_so, inr wants)) =
    nothing_is_written (same_files before after ending.before.files ending.after.files is_before is_after (stopped_files _ 6 at_first ending wants.stops))
countersigned_by names key Made allowed apart before after order ending made is_before is_after (inr (inl (so, rest))) =
    signed_by names.key names.out key Made allowed apart before after (countersigned_order key names.layer order) ending made is_before is_after rest
countersigned_by names key Made allowed apart before after order ending made is_before is_after (inr (inr wants)) =
    nothing_is_written (same_files before after ending.before.files ending.after.files is_before is_after (stopped_files _ 6 at_first ending wants.stops))

pub countersigning_uses_up_its_index : CountersigningUsesUpItsIndex
unfolding countersign CommandEnds
countersigning_uses_up_its_index names ending before after bytes key (inl ends) is_before is_after holds spelled apart =
    nothing_is_written (same_files before after ending.before.files ending.after.files is_before is_after (input_files (key_input names.key) at_first ending ends))
countersigning_uses_up_its_index names ending before after bytes key (inr (found, has, (value, is, ends))) is_before is_after holds spelled apart =
    let one : value ≡ key = one_key names.key bytes found key value ending.before before is_before holds spelled has is in
    let Made : Order → Type 0 = λ made. (order : Order) × (made ≡ countersigned_order key names.layer order) in
    let rest = λ (k : Keyfile) (order : Order).
    either_command (IsCountersignable order names.layer → ⊥) (refuse (codes "not countersignable")) (sign_by names.key names.out k (countersigned_order k names.layer order)) in
    input_read (order_input names.order) (rest key) names.key names.out key Made before after
    (end_seen_from (read_once ending.before) ending) is_before is_after
    (λ text order held means mid at_before at_after. countersigned_by names key Made spelled.allowed apart before after order mid (order, refl) at_before at_after)
    (subst (λ k. CommandEnds (read (order_input names.order) (rest k)) at_first (end_seen_from (read_once ending.before) ending)) one ends)

-- ---- the draft that was read

-- a text drafts one order
one_draft : (text : List ℕ) (one other : Order) → ReadsLines IsDraft text one → ReadsLines IsDraft text other → one ≡ other
one_draft text one other reads also =
    IsDraft-same also.lines one other (subst (λ (lines : List (List ℕ)). IsDraft lines one) (HasLines-same text reads.lines also.lines reads.has also.has) reads.stands) also.stands

-- what is done once the key, the order and the draft are read
abbrev once_read : CosignNames → Keyfile → Order → Order → Command
once_read names key order drafted =
    either_command (IsCountersignable order names.layer → ⊥) (refuse (codes "not countersignable"))
    (either_command (order_body drafted ≡ order_body order) (sign_by names.key names.out key (countersigned_order key names.layer order)) (refuse (codes "differs")))

cosigned_by : (names : CosignNames) (key : Keyfile) (Made : Order → Type 0) → keyfile_format.Allowed key → names.out ≢ names.key → (before after : Files) (order drafted : Order) (ending : Ended)
    → (order_body drafted ≡ order_body order → Made (countersigned_order key names.layer order)) → ending.before.files ≡ Some before → ending.after.files ≡ Some after
    → CommandEnds (once_read names key order drafted) at_first ending → LeavesKey names.key names.out key Made before after ending.status
unfolding CommandEnds
cosigned_by names key Made allowed apart before after order drafted ending made is_before is_after (inl (not_so, inl stops)) =
    nothing_is_written (same_files before after ending.before.files ending.after.files is_before is_after (stopped_files _ 7 at_first ending stops))
cosigned_by names key Made allowed apart before after order drafted ending made is_before is_after (inl (not_so, inr wants)) =
    nothing_is_written (same_files before after ending.before.files ending.after.files is_before is_after (stopped_files _ 6 at_first ending wants.stops))
cosigned_by names key Made allowed apart before after order drafted ending made is_before is_after (inr (inl (so, inl (same, rest)))) =
    signed_by names.key names.out key Made allowed apart before after (countersigned_order key names.layer order) ending (made same) is_before is_after rest
cosigned_by names key Made allowed apart before after order drafted ending made is_before is_after (inr (inl (so, inr (inl (differs, inl stops))))) =
    nothing_is_written (same_files before after ending.before.files ending.after.files is_before is_after (stopped_files _ 7 at_first ending stops))
cosigned_by names key Made allowed apart before after order drafted ending made is_before is_after (inr (inl (so, inr (inl (differs, inr wants))))) =
    nothing_is_written (same_files before after ending.before.files ending.after.files is_before is_after (stopped_files _ 6 at_first ending wants.stops))
cosigned_by names key Made allowed apart before after order drafted ending made is_before is_after (inr (inl (so, inr (inr wants)))) =
    nothing_is_written (same_files before after ending.before.files ending.after.files is_before is_after (stopped_files _ 6 at_first ending wants.stops))
cosigned_by names key Made allowed apart before after order drafted ending made is_before is_after (inr (inr wants)) =
    nothing_is_written (same_files before after ending.before.files ending.after.files is_before is_after (stopped_files _ 6 at_first ending wants.stops))

-- what a call of `cosign` leaves, by what may be made of an order whose body is that of the draft in DRAFT
cosigning_leaves : (names : CosignNames) (ending : Ended) (before after : Files) (bytes : List ℕ) (key : Keyfile) (Made : Order → Type 0)
    → ((text : List ℕ) (drafted order : Order) → before names.draft ≡ Some text → ReadsLines IsDraft text drafted → order_body drafted ≡ order_body order → Made (countersigned_order key names.layer order))
    → CommandEnds (cosign names) at_first ending → ending.before.files ≡ Some before → ending.after.files ≡ Some after → before names.key ≡ Some bytes → Spells keyfile_format bytes key → names.out ≢ names.key
    → LeavesKey names.key names.out key Made before after ending.status
unfolding cosign CommandEnds
cosigning_leaves names ending before after bytes key Made made (inl ends) is_before is_after holds spelled apart =
    nothing_is_written (same_files before after ending.before.files ending.after.files is_before is_after (input_files (key_input names.key) at_first ending ends))
cosigning_leaves names ending before after bytes key Made made (inr (found, has, (value, is, ends))) is_before is_after holds spelled apart =
    let one : value ≡ key = one_key names.key bytes found key value ending.before before is_before holds spelled has is in
    let rest = λ (k : Keyfile) (order : Order). read (draft_input names.draft) (once_read names k order) in
    input_read (order_input names.order) (rest key) names.key names.out key Made before after
    (end_seen_from (read_once ending.before) ending) is_before is_after
    (λ line order there says mid at_before at_after. input_read (draft_input names.draft) (once_read names key order) names.key names.out key Made before after mid at_before at_after
    (λ text drafted held means late late_before late_after. cosigned_by names key Made spelled.allowed apart before after order drafted late (made text drafted order held means) late_before late_after))
    (subst (λ k. CommandEnds (read (order_input names.order) (rest k)) at_first (end_seen_from (read_once ending.before) ending)) one ends)

pub cosigning_signs_the_draft : CosigningSignsTheDraft
cosigning_signs_the_draft names ending before after bytes text key drafted ends is_before is_after holds spelled there reads apart =
    cosigning_leaves names ending before after bytes key (IsCosigned key names.layer drafted)
    (λ found other order held means same.
    let one_text : found ≡ text = same_Some found text (sym held ∙ there) in
    let one : other ≡ drafted = one_draft text other drafted (subst (λ (t : List ℕ). ReadsLines IsDraft t other) one_text means) reads in
    let own : order_body drafted ≡ order_body order = subst (λ (d : Order). order_body d ≡ order_body order) one same in
    record {
      order = order;
      same = own;
      signed = ap (λ (body : List ℕ). record order {
        countersignatures = with_countersignature (record { layer = names.layer; signature = signature_of key.seed key.next (countersigned_text names.layer body) }) order.countersignatures;
      }) (sym own);
    })
    ends is_before is_after holds spelled apart

-- ---- calls one after another

same_number : (n m : ℕ) → (n == m) ≡ true → n ≡ m
same_number n m is = grind (arith, is)

other_number : (n m : ℕ) → (n == m) ≡ false → n ≡ m → ⊥
other_number n m is same = grind (arith, is, same)

-- what a call leaves of the files
call_leaves : (key_name : List ℕ) (found left : Keyfile) (call : KeyCall key_name found left)
    → (Made : Order → Type 0) × LeavesKey key_name (out_name_of call.command) found Made call.before call.after call.ending.status
call_leaves key_name found left call = by call.command call.is_key call.is_not_out call.ends
  where
    by : (command : KeyCommand) → key_name_of command ≡ key_name → out_name_of command ≢ key_name → EndsSo command call.ending
        → (Made : Order → Type 0) × LeavesKey key_name (out_name_of command) found Made call.before call.after call.ending.status
    by (by_sign names) is apart ends =
        let holds : call.before names.key ≡ Some call.bytes = ap call.before is ∙ call.holds in (
          _,
          subst (λ n. LeavesKey n names.out found (λ made. (order : Order) × (made ≡ signed_order found order)) call.before call.after call.ending.status) is
              (signing_uses_up_its_index names call.ending call.before call.after call.bytes found ends call.shows_before call.shows_after holds call.spelled (λ same. apart (same ∙ is))),
        )
    by (by_cosign names) is apart ends =
        let holds : call.before names.key ≡ Some call.bytes = ap call.before is ∙ call.holds in
        let Made : Order → Type 0 = λ made. (order : Order) × (made ≡ countersigned_order found names.layer order) in (
          _,
          subst (λ n. LeavesKey n names.out found Made call.before call.after call.ending.status) is
              (cosigning_leaves names call.ending call.before call.after call.bytes found Made (λ text drafted order held means same. (order, refl)) ends call.shows_before call.shows_after holds call.spelled
              (λ same. apart (same ∙ is))),
        )
    by (by_countersign names) is apart ends =
        let holds : call.before names.key ≡ Some call.bytes = ap call.before is ∙ call.holds in (
          _,
          subst (λ n. LeavesKey n names.out found (λ made. (order : Order) × (made ≡ countersigned_order found names.layer order)) call.before call.after call.ending.status) is
              (countersigning_uses_up_its_index names call.ending call.before call.after call.bytes found ends call.shows_before call.shows_after holds call.spelled (λ same. apart (same ∙ is))),
        )

-- a call leaves the key that it found, and then nothing but KEY is written; or the key with one index more used
one_call : (key_name : List ℕ) (found left : Keyfile) (call : KeyCall key_name found left)
    → ((left ≡ found) × ((name : List ℕ) → name ≢ key_name → call.after name ≡ call.before name)) ⊎ (left ≡ keyfile_after_use found)
one_call key_name found left call = by (call_leaves key_name found left call).1
  where
    spelled_so : (bytes : List ℕ) (key : Keyfile) → call.after key_name ≡ Some bytes → Spells keyfile_format bytes key → left ≡ key
    spelled_so bytes key holds spelled =
        key_clear.one_value call.left_bytes left key call.are_bytes call.then_spelled
        (subst (λ b. Spells keyfile_format b key) (same_Some bytes call.left_bytes (sym holds ∙ call.then_holds)) spelled)

    by : {Made : Order → Type 0} → LeavesKey key_name (out_name_of call.command) found Made call.before call.after call.ending.status
        → ((left ≡ found) × ((name : List ℕ) → name ≢ key_name → call.after name ≡ call.before name)) ⊎ (left ≡ keyfile_after_use found)
    by (nothing_is_written stays) = inl (spelled_so call.bytes found (stays key_name ∙ call.holds) call.spelled, λ name apart. stays name)
    by (key_is_not_written stays status) = elim (call.whole status) [
      | inl same ↦ inl (same, stays)
      | inr used ↦ inr used
    ]
    by (index_is_used room now holds spelled stays made) = inr (spelled_so now (keyfile_after_use found) holds spelled)

pub nothing_is_signed_without_an_index : NothingIsSignedWithoutAnIndex
nothing_is_signed_without_an_index key_name found left call same = elim (one_call key_name found left call) [
  | inl stays ↦ stays.1
  | inr used ↦
      let more : found.next ≡ found.next + 1 = ap (λ (k : Keyfile). k.next) (sym same ∙ used) in
      absurd (omega (arith, more))
]

-- no call goes back
goes_on : (key_name : List ℕ) (found left : Keyfile) → KeyCall key_name found left → found.next ≤ left.next
goes_on key_name found left call = elim (one_call key_name found left call) [
  | inl stays ↦ let same : left.next ≡ found.next = ap (λ (k : Keyfile). k.next) stays.0 in omega (arith, same)
  | inr used ↦ let more : left.next ≡ found.next + 1 = ap (λ (k : Keyfile). k.next) used in omega (arith, more)
]

-- the indices that are used up from a key on are above those before
all_above : (key_name : List ℕ) (first : Keyfile) (left : List Keyfile) (bound : ℕ) → bound < first.next → CallsInTurn key_name first left
    → All (λ later. bound < later) (indices_used first left)
all_above key_name first [] bound less turn = All-nil (λ later. bound < later)
all_above key_name first (left ∷ more) bound less turn =
    let on = goes_on key_name first left turn.0 in
    by (left.next == first.next) (all_above key_name left more bound (omega (arith, less, on)) turn.1)
  where
    by : (b : Bool) → All (λ later. bound < later) (indices_used left more)
        → All (λ later. bound < later) ((if b then [] else first.next ∷ []) ++ indices_used left more)
    by true rest = rest
    by false rest = All-cons (λ later. bound < later) first.next (indices_used left more) less rest

pub indices_in_turn_differ : IndicesInTurnDiffer
indices_in_turn_differ key_name first [] turn = λ i j d less within. absurd (omega (arith, within))
indices_in_turn_differ key_name first (left ∷ more) turn =
    by (left.next == first.next) refl (goes_on key_name first left turn.0) (indices_in_turn_differ key_name left more turn.1)
  where
    by : (b : Bool) → (left.next == first.next) ≡ b → first.next ≤ left.next → AllPairs (λ sooner later. sooner < later) (indices_used left more)
        → AllPairs (λ sooner later. sooner < later) ((if b then [] else first.next ∷ []) ++ indices_used left more)
    by true is on rest = rest
    by false is on rest =
        let apart : left.next ≡ first.next → ⊥ = other_number left.next first.next is in
        AllPairs-cons (λ sooner later. sooner < later) first.next (indices_used left more)
        (all_above key_name left more first.next (omega (arith, on, apart)) turn.1) rest

pub old_keys_sign_again : OldKeysSignAgain
old_keys_sign_again key = (
  ap (λ (used : List ℕ). used ++ used) (by (key.next + 1 == key.next) refl),
  λ differ.
      let less : key.next < key.next = All-head (λ later. key.next < later) key.next [] (pairs_head (λ sooner later. sooner < later) key.next (key.next ∷ []) differ) in
      omega (arith, less),
)
  where
    by : (b : Bool) → (key.next + 1 == key.next) ≡ b → (if b then [] else key.next ∷ []) ++ [] ≡ key.next ∷ []
    by true is = let same : key.next + 1 ≡ key.next = same_number (key.next + 1) key.next is in absurd (omega (arith, same))
    by false is = refl
