-- The counterexamples of steps, runs and logs, refuted.
use Rattle.std.proofs.Common.{◌≡◌, ◌≢◌, ℕ, zero, suc, ◌<◌, List, [], ◌∷◌, length, take, drop, replicate, inl, inr, Option, None, Some, false, refl, sym, ap, subst, ◌∙◌, arith, lit<, lit≤, length-append}
use Rattle.std.specs.Prelude.{All, Contains, is_some, slice_index, Result, Ok, Err}
use Rattle.std.proofs.lemmas.Bool.{false≢true}
use Rattle.std.proofs.lemmas.List.Elements.{All-nil, All-cons, All-from_recursion}
use Rattle.std.proofs.lemmas.Option.{same_Some}
use Rattle.mb_format.specs.Format.{Spells}
use Rattle.mb_format.specs.Combinators.{items}
use Rattle.mb_format.specs.Reading.{raw_at, number_at}
use Rattle.mb_model.specs.declared.key.PublicKey.{PublicKey}
use Rattle.mb_model.specs.declared.order.ChangeKind.TheVariants.{Establish, Load}
use Rattle.mb_model.specs.declared.order.KeyKind.{KeyKind}
use Rattle.mb_model.specs.declared.order.KeyKind.TheVariants.{Epoch}
use Rattle.mb_model.specs.declared.order.Order.{Order}
use Rattle.mb_model.specs.declared.entry.Entry.{Entry}
use Rattle.mb_model.specs.declared.entry.Entry.TheVariants.{Birth, Change, NewKey, Succession}
use Rattle.mb_model.specs.declared.entry.SignedEntry.{SignedEntry}
use Rattle.mb_model.specs.declared.event.Event.{Event}
use Rattle.mb_model.specs.declared.event.Event.TheVariants as event
use Rattle.mb_model.specs.declared.reply.Reply.{Reply}
use Rattle.mb_model.specs.declared.reply.Reply.TheVariants as reply
use Rattle.mb_model.specs.declared.state.State.{State}
use Rattle.mb_model.specs.declared.reply.OrderRefusal.TheVariants.{WrongTarget, WrongCountersignature}
use Rattle.mb_model.specs.declared.reply.Refusal.{Refusal}
use Rattle.mb_model.specs.declared.state.View.{View}
use Rattle.mb_model.specs.signatures.Signing.{public_of}
use Rattle.mb_model.specs.records.LayerFormat.{trust_format}
use Rattle.mb_model.specs.records.OrderFormat.{target_format, payload_format, body_format, sized_signature_format, countersignatures_format, order_format}
use Rattle.mb_model.specs.owners.Log.{device_in, last_of, layers_of}
use Rattle.mb_model.specs.owners.Lives.{MadeKey, splits, alive_keys, ends_keys, Alive}
use Rattle.mb_model.specs.owners.Regions.{AdmittedSince}
use Rattle.mb_model.specs.owners.Rules.{IsFirstFailing}
use Rattle.mb_model.specs.machine.OrderChecks.{view_of, TargetHoldsIn, IsCountersigned, Fails}
use Rattle.mb_model.specs.machine.OrderStep.{spells_none, fails_check, is_obeyed}
use Rattle.mb_model.specs.machine.Machine.{Phase, World, Told, off, dead, ratchet, boot_event, running_state_in, status_of, status_event, Step, machine_step, lacks_memory, loses_power}
use Rattle.mb_model.specs.memories.Acknowledged.{LeavesMemory, LeavesCleanMemory, AreWiping}
use Rattle.mb_model.specs.outside.Board.{Held}
use Rattle.mb_model.specs.machine.Runs.{IsSignedAt, HasInCharge}
use Rattle.mb_model.proofs.OrderFormatLaws.{order_exact}
use Rattle.mb_model_commands.specs.Inputs.{Image}
use Rattle.mb_model_lemmas.proofs.AliveLemmas.{alive_is_listed}
use Rattle.mb_model_lemmas.proofs.LineLemmas.{cons_same, cons_none}
use Rattle.mb_model_lemmas.proofs.OrderLemmas.{passes_fail_nothing, refused_order_leaves}
use Rattle.mb_model_lemmas.proofs.RefusalLemmas.{machine_is_whole}
use Rattle.mb_model_lemmas.proofs.Splits.{none_is_some, All-split}
use Rattle.mb_model_lemmas.proofs.ListLemmas.{pairs_head}
use Rattle.mb_model_examples.specs.RuleExamples.{officer, at_birth, with_two, with_three, nobody, by_two, three_renewed, life}
use Rattle.mb_model_examples.specs.Device.{signed_with, seed_of, token, key_one, after_uses}
use Rattle.mb_model_examples.specs.RunCounterExamples.{OrderCounterExamples, RefusalCounterExamples, StepCounterExamples, RunCounterExamples, ServedCounterExamples, booted, turned_off, LogCounterExamples, ChargeCounterExamples, stated_at, IndexCounterExamples, betrayed_life, AliveCounterExamples, RegionCounterExamples}
use Rattle.mb_model_examples.proofs.MemoryCounterProofs as memory
use Rattle.mb_model_examples.proofs.MemoryCounterProofs.{not_clean}
use Rattle.mb_model_examples.proofs.StepProofs.{stops}

-- ---- steps

abbrev size_in : Reply → ℕ
size_in (reply.Done number size) = size
size_in _ = 0

no_order : (order : Order) → Spells order_format [] order → ⊥
unfolding trust_format target_format payload_format body_format sized_signature_format countersignatures_format order_format number_at raw_at items
no_order order spelled = memory.spells_none order_exact [] 0 refl refl order spelled

pub orders : (state next : State) (text draw : List ℕ) → OrderCounterExamples state next text draw
orders state next text draw = record {
  booted = λ step. elim step as (λ s. ⊥) [
    | spells_none p ↦ absurd (grind (arith, p.answered))
    | fails_check p ↦ absurd (grind (arith, p.answered))
    | is_obeyed p ↦ absurd (grind (arith, p.answered))
  ];
  changed = λ changed step. changed (refused_order_leaves state text draw 12 next step);
  other_length = λ number size differs step. elim step as (λ s. ⊥) [
    | spells_none p ↦ absurd (grind (arith, p.answered))
    | fails_check p ↦ absurd (grind (arith, p.answered))
    | is_obeyed p ↦ differs (ap size_in p.answered)
  ];
  no_bytes = λ number size step. elim step as (λ s. ⊥) [
    | spells_none p ↦ absurd (grind (arith, p.answered))
    | fails_check p ↦ absurd (grind (arith, p.answered))
    | is_obeyed p ↦ no_order p.order p.spelled
  ];
}

none_fails_first : {A : Type 0} (P : A → Type 0) (items : List A) (i : ℕ) (item : A) → items ≡ [] → IsFirstFailing P items i item → ⊥
none_fails_first P items i item none first =
    omega (arith, ap length (sym none ∙ first.split), length-append first.before (item ∷ first.rest))

-- a refusal for a target is that of no other check
no_target_fails : (view : View) (order : Order) (i : ℕ) → order.targets ≡ [] → Fails view order (WrongTarget i) → ⊥
no_target_fails view order i none first = elim first as (λ f. ⊥) [
  | inl x ↦ none_fails_first (TargetHoldsIn view) order.targets x.0 x.1 none x.3
  | inr a ↦ elim a.1 as (λ f. ⊥) [
    | inl x ↦ absurd (grind (arith, x.0))
    | inr b ↦ elim b.1 as (λ f. ⊥) [
      | inl x ↦ absurd (grind (arith, x.0))
      | inr c ↦ elim c.1 as (λ f. ⊥) [
        | inl x ↦ absurd (grind (arith, x.2))
        | inr d ↦ elim d.1 as (λ f. ⊥) [
          | inl x ↦ absurd (grind (arith, x.0))
          | inr e ↦ elim e.1 as (λ f. ⊥) [
            | inl x ↦ absurd (grind (arith, x.0))
            | inr f ↦ absurd f.1
          ]
        ]
      ]
    ]
  ]
]

no_countersignature_fails : (view : View) (order : Order) → order.countersignatures ≡ [] → Fails view order (WrongCountersignature 3) → ⊥
no_countersignature_fails view order none first = elim first as (λ f. ⊥) [
  | inl x ↦ absurd (grind (arith, x.2))
  | inr a ↦ elim a.1 as (λ f. ⊥) [
    | inl x ↦ absurd (grind (arith, x.0))
    | inr b ↦ elim b.1 as (λ f. ⊥) [
      | inl x ↦ absurd (grind (arith, x.0))
      | inr c ↦ elim c.1 as (λ f. ⊥) [
        | inl x ↦ none_fails_first (IsCountersigned view order) order.countersignatures x.0 x.1 none x.3
        | inr d ↦ elim d.1 as (λ f. ⊥) [
          | inl x ↦ absurd (grind (arith, x.0))
          | inr e ↦ elim e.1 as (λ f. ⊥) [
            | inl x ↦ absurd (grind (arith, x.0))
            | inr f ↦ absurd f.1
          ]
        ]
      ]
    ]
  ]
]

pub refusals : (state : State) (order : Order) → RefusalCounterExamples state order
refusals state order = record {
  no_target = λ i none fails. no_target_fails (view_of state) order i none fails;
  no_countersignature = λ none fails. no_countersignature_fails (view_of state) order none fails;
  passing = λ refusal passes fails. passes_fail_nothing (view_of state) order refusal passes fails;
}

off_is_no_boot : (world next : World) → Step world event.Off reply.Booted next → ⊥
off_is_no_boot world next (machine_step x) = absurd (grind (arith, x.0))
off_is_no_boot world next (lacks_memory p) = absurd (grind (arith, p.answered))
off_is_no_boot world next (loses_power p) = absurd (grind (arith, p.answered))

status_stays : (world : World) (on : Result (ℕ × State) Refusal) → (status_event world on).1 ≡ world
unfolding status_of
status_stays world (Err refusal) = refl
status_stays world (Ok on) = refl

status_changes_nothing : (world next : World) (answer : Reply) → Step world event.Status answer next → next ≡ world
status_changes_nothing world next answer (machine_step x) = ap (λ (told : Told). told.1) x ∙ status_stays world (running_state_in world)
status_changes_nothing world next answer (lacks_memory p) = p.stays
status_changes_nothing world next answer (loses_power p) =
    absurd ((stops world).status next (subst (λ a. Step world event.Status a next) p.answered (loses_power p)))

stop_follows : (world next : World) (given : Event) → Step world given reply.Stopped next → (next.phase ≡ off) × (next.armed ≡ false)
stop_follows world next given (machine_step x) = absurd ((machine_is_whole world given reply.Stopped next x).1 refl)
stop_follows world next given (lacks_memory p) = absurd (grind (arith, p.answered))
stop_follows world next given (loses_power p) = (ap (λ (w : World). w.phase) p.follows, ap (λ (w : World). w.armed) p.follows)

pub steps : (world next : World) → StepCounterExamples world next
steps world next = record {
  other_reply = off_is_no_boot world next;
  changed = λ changed answer step. changed (status_changes_nothing world next answer step);
  stopped_on = λ on given step. absurd (grind (arith, sym on ∙ (stop_follows world next given step).0));
  still_armed = λ armed given step. false≢true (sym (stop_follows world next given step).1 ∙ armed);
  unarmed = λ unarmed given answer loses. false≢true (sym unarmed ∙ loses.armed);
  not_told = λ given loses. absurd (grind (arith, loses.answered));
}

-- ---- runs

boots_from_off : (world next : World) (phase : Phase) (state : Option State) → ◌≡◌ {A = Told} (reply.Booted, next) (boot_event world phase state)
    → (phase ≡ off) × (next.phase ≡ ratchet 1)
boots_from_off world next off (Some state) e = (refl, ap (λ (told : Told). told.1.phase) e)
boots_from_off world next off None e = absurd (grind (arith, ap (λ (told : Told). told.0) e))
boots_from_off world next dead state e = absurd (grind (arith, ap (λ (told : Told). told.0) e))
boots_from_off world next (ratchet r) state e = absurd (grind (arith, ap (λ (told : Told). told.0) e))

boot_turns_on : (world next : World) → Step world event.Boot reply.Booted next → (world.phase ≡ off) × (next.phase ≡ ratchet 1)
boot_turns_on world next (machine_step x) = boots_from_off world next world.phase world.state x
boot_turns_on world next (lacks_memory p) = absurd (grind (arith, p.answered))
boot_turns_on world next (loses_power p) = absurd (grind (arith, p.answered))

pub runs : (world next : World) → RunCounterExamples world next
runs world next = record {
  nothing = λ changed run. changed run;
  twice = λ run. absurd (grind (arith, sym (boot_turns_on world run.0 run.1).1 ∙ (boot_turns_on run.0 run.2.0 run.2.1).0));
}

one_boot : AreWiping (booted ∷ [])
one_boot = record { sooner = []; wiping = booted; later = []; split = refl; wipes = inl refl; unstopped = All-nil (λ a. a.reply ≢ reply.Stopped) }

boot_and_off : AreWiping (booted ∷ turned_off ∷ [])
boot_and_off = record {
  sooner = [];
  wiping = booted;
  later = turned_off ∷ [];
  split = refl;
  wipes = inl refl;
  unstopped = All-cons (λ a. a.reply ≢ reply.Stopped) turned_off [] (λ stopped. absurd (grind (arith, stopped))) (All-nil (λ a. a.reply ≢ reply.Stopped));
}

pub served : (image : Image) (final : Held) → ServedCounterExamples image final
served image final = record {
  unanswered = λ served. cons_none event.Boot [] served.all;
  invented = λ served. cons_none event.Off [] (sym served.all);
  swapped = λ served. absurd (grind (arith, (cons_same event.Off event.Boot (event.Boot ∷ []) (event.Off ∷ []) served.all).0));
  still_on = λ on served. absurd (grind (arith, sym (ap (λ (world : World). world.phase) served.run) ∙ served.shown.phase ∙ on));
  unclean = λ offset life byte served. not_clean final.memory.bbram offset life byte served.last.state (served.clean (inr one_boot));
  unclean_off = λ offset life byte served. not_clean final.memory.bbram offset life byte served.last.state (served.clean (inr boot_and_off));
  no_byte = λ high events answered served. omega (arith, high, served.bytes.flash 0);
  changed = λ other served.
      other (served.untouched (All-cons LeavesMemory turned_off [] (record { untold = refl; untampered = λ is. absurd (grind (arith, is)) }) (All-nil LeavesMemory)));
  rewritten = λ clean other served.
      other (served.quiet clean (All-cons LeavesCleanMemory booted [] (inr refl) (All-nil LeavesCleanMemory)));
}

-- ---- logs

pub logs : LogCounterExamples
logs = record {
  shortened = λ earlier later shorter goes.
      let comes = goes later refl in
      let first = ap (λ (state : State). length state.log) (same_Some earlier comes.0 comes.1) in
      omega (arith, shorter, first, ap length comes.2.1, length-append comes.0.log comes.2.0);
  rewritten = λ birth other differs begins. differs (cons_same other birth [] begins.0 begins.1).0;
  revived = λ state goes. absurd (grind (arith, (goes state refl).1));
}

pub charges : (log front : List SignedEntry) (namer signed : SignedEntry) → ChargeCounterExamples log front namer signed
charges log front namer signed = record {
  replaced = λ other key names charge. none_is_some (device_in other.entry) key (charge.none 0 other (lit< tt)) names;
  unnamed = λ between none charge. false≢true (sym (ap is_some none) ∙ charge.names);
}

abbrev pub signed_entry : List ℕ → Entry → SignedEntry
signed_entry signature entry = record { entry = entry; signature = signature }

abbrev born : List ℕ → SignedEntry
born signature = signed_entry signature (Birth 1 (replicate 16 9) (officer 10) at_birth)

abbrev pub two_owned : List ℕ → SignedEntry
two_owned signature = signed_entry signature (Change 2 1 1 Establish 2 nobody with_two nobody None)

abbrev three_owned : List ℕ → SignedEntry
three_owned signature = signed_entry signature (Change 2 2 2 Establish 3 nobody with_three by_two None)

abbrev names_none : SignedEntry → Type 0
names_none other = device_in other.entry ≡ None

two_in_charge : (signature : List ℕ) → HasInCharge (signed_with signature (take 3 life)) [] (born signature) [] (two_owned signature)
two_in_charge signature = record { rest = three_owned signature ∷ []; split = refl; names = refl; none = All-nil names_none }

three_in_charge : (signature : List ℕ) → HasInCharge (signed_with signature (take 3 life)) [] (born signature) (two_owned signature ∷ []) (three_owned signature)
three_in_charge signature =
    record { rest = []; split = refl; names = refl; none = All-cons names_none (two_owned signature) [] refl (All-nil names_none) }

pub indices : (signature : List ℕ) → IndexCounterExamples signature
indices signature = record {
  entries = λ once.
      let less = once [] (born signature) [] (two_owned signature ∷ []) (two_owned signature) (three_owned signature) (two_in_charge signature) (three_in_charge signature) (lit< tt) in
      omega (arith, less);
  statements = λ one other once.
      let less = pairs_head (λ a b. (n i j : ℕ) → IsSignedAt n i a → IsSignedAt n j b → i < j) (stated_at 4 one) (stated_at 4 other ∷ []) once 0 (stated_at 4 other) (lit< tt) 1 4 4 (one, refl) (other, refl) in
      omega (arith, less);
  backwards = λ one other once.
      let less = pairs_head (λ a b. (n i j : ℕ) → IsSignedAt n i a → IsSignedAt n j b → i < j) (stated_at 4 one) (stated_at 3 other ∷ []) once 0 (stated_at 3 other) (lit< tt) 1 4 3 (one, refl) (other, refl) in
      omega (arith, less);
  used_before = λ bytes after.
      let more = after (after_uses 5 signature) 3 (key_one 5) refl (0, lit< tt, refl) 0 (stated_at 4 bytes) (lit< tt) 4 (bytes, refl) in
      omega (arith, more);
}

-- ---- keys and secrets

none_listed : (log : List Entry) (n L : ℕ) (kind : KeyKind) (key : PublicKey) → alive_keys log L ≡ [] → Alive log n L kind key → ⊥
none_listed log n L kind key none alive =
    let within = subst (λ (keys : List MadeKey). Contains keys (record { number = n; kind = kind; key = key })) none (alive_is_listed log n L kind key alive) in
    omega (arith, within.1)

only_one : (one other : MadeKey) → Contains (one ∷ []) other → one ≡ other
only_one one other (zero, within, same) = same
only_one one other (suc k, within, same) = absurd (omega (arith, within))

one_listed : (log : List Entry) (n L : ℕ) (kind : KeyKind) (key : PublicKey) (one : MadeKey) → alive_keys log L ≡ one ∷ [] → Alive log n L kind key
    → one ≡ record { number = n; kind = kind; key = key }
one_listed log n L kind key one only alive =
    only_one one (record { number = n; kind = kind; key = key })
    (subst (λ (keys : List MadeKey). Contains keys (record { number = n; kind = kind; key = key })) only (alive_is_listed log n L kind key alive))

-- the keys of layers 2 and 3 that are alive
abbrev key_of_life : MadeKey
key_of_life = record { number = 1; kind = Epoch; key = officer 11 }

keys_of_two : alive_keys life 2 ≡ []
unfolding splits alive_keys
keys_of_two = refl

keys_of_three : alive_keys life 3 ≡ key_of_life ∷ []
unfolding splits alive_keys
keys_of_three = refl

keys_of_betrayed : alive_keys betrayed_life 3 ≡ []
unfolding splits alive_keys
keys_of_betrayed = refl

pub lives : AliveCounterExamples
lives = record {
  alive = record {
    before = take 5 life;
    position = 5;
    number = 4;
    later = drop 6 life;
    split = refl;
    lasts = All-from_recursion (λ entry. ends_keys Epoch 3 entry ≡ false) (drop 6 life) (refl, (refl, tt));
  };
  ended = none_listed betrayed_life 1 3 Epoch (officer 11) keys_of_betrayed;
  other_number = λ kind key alive. omega (arith, ap (λ (made : MadeKey). made.number) (one_listed life 2 3 kind key key_of_life keys_of_three alive));
  other_layer = λ kind key. none_listed life 1 2 kind key keys_of_two;
  other_key = λ alive. omega (arith, ap (λ (made : MadeKey). slice_index made.key.identifier 0) (one_listed life 1 3 Epoch (officer 12) key_of_life keys_of_three alive));
}

not_admitted : (since : ℕ) → since < 7 → AdmittedSince betrayed_life since 3 → ⊥
unfolding layers_of last_of
not_admitted since below admitted = false≢true (admitted life [] 2 8 7 Load 2 nobody three_renewed by_two None refl below (lit≤ tt))

abbrev made_at_four : Entry → Type 0
made_at_four (Birth version serial key layers) = Unit {0}
made_at_four (Change version position number kind layer cosigned layers kept next) = Unit {0}
made_at_four (NewKey position number key_number layer kind key) = number ≡ 4
made_at_four (Succession position key) = Unit {0}

keys_made_at_four : All made_at_four betrayed_life
keys_made_at_four = All-from_recursion made_at_four betrayed_life (tt, (tt, (tt, (tt, (tt, (refl, (tt, (tt, (tt, tt)))))))))

alive_in_six : Alive (take 6 life) 1 3 Epoch (officer 11)
alive_in_six = record {
  before = take 5 life;
  position = 5;
  number = 4;
  later = [];
  split = refl;
  lasts = All-nil (λ entry. ends_keys Epoch 3 entry ≡ false);
}

none_in_six : alive_keys (take 6 life) 2 ≡ []
unfolding splits alive_keys
none_in_six = refl

pub regions : (signature : List ℕ) → RegionCounterExamples signature
regions signature = record {
  missing = λ holds. omega (arith, (holds.held 1 Epoch (officer 11) alive_in_six).2);
  misplaced = λ holds. none_listed (take 6 life) 1 2 Epoch (public_of (seed_of 11)) none_in_six (holds.alive (key_one 0) (0, lit< tt, refl));
  key_outlives = λ admitted.
      let split = subst (All made_at_four) admitted.split keys_made_at_four in
      let at_four = All-split made_at_four admitted.before (NewKey admitted.position admitted.number 1 3 admitted.kind admitted.key) admitted.later split in
      not_admitted admitted.number (omega (arith, at_four)) admitted.admitted;
  secret_outlives = λ kept. not_admitted 4 (lit< tt) (kept.secrets 0 token (lit< tt));
}
