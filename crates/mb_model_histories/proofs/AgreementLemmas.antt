-- Several chains: those of one device agree, and a chain is of one device.
use Rattle.std.proofs.Common.{◌≡◌, ◌≢◌, ℕ, ◌+◌, List, [], ◌∷◌, ◌++◌, length, inl, inr, Option, None, Some, Bool, true, false, refl, sym, ap, ◌∙◌, subst, arith, append_assoc, append-nil, length-append}
use Rattle.std.specs.Prelude.{◌==◌, Any, Contains, if◌then◌else◌}
use Rattle.std.proofs.lemmas.Bool.{cases_lt}
use Rattle.std.proofs.lemmas.List.{map-append}
use Rattle.std.proofs.lemmas.List.Elements.{All-nil, All-cons, All-contains, Contains-append_right}
use Rattle.mb_model.specs.declared.entry.Entry.{Entry}
use Rattle.mb_model.specs.declared.entry.Entry.TheVariants.{Birth, Change, NewKey, Succession}
use Rattle.mb_model.specs.declared.entry.SignedEntry.{SignedEntry}
use Rattle.mb_model.specs.declared.event.Answered.{Answered}
use Rattle.mb_model.specs.declared.key.PublicKey.{PublicKey}
use Rattle.mb_model.specs.declared.key.Tree.TheVariants.{H5}
use Rattle.mb_model.specs.declared.key.Chains.TheVariants.{W4}
use Rattle.mb_model.specs.declared.layer.CodeName.{CodeName}
use Rattle.mb_model.specs.declared.layer.Layer.{Layer}
use Rattle.mb_model.specs.declared.layer.Layers.{Layers}
use Rattle.mb_model.specs.declared.limits.TheConstants.{LAST_INDEX}
use Rattle.mb_model.specs.declared.order.Act.TheVariants as act
use Rattle.mb_model.specs.declared.order.ChangeKind.TheVariants.{Load}
use Rattle.mb_model.specs.declared.order.KeyKind.TheVariants.{Epoch}
use Rattle.mb_model.specs.declared.order.Order.{Order}
use Rattle.mb_model.specs.declared.order.Payload.{Payload}
use Rattle.mb_model.specs.declared.state.Configuration.{Configuration}
use Rattle.mb_model.specs.declared.state.Report.{Report}
use Rattle.mb_model.specs.declared.state.State.{State}
use Rattle.mb_model.specs.declared.tools.Keyfile.{Keyfile}
use Rattle.mb_model.specs.chains.Acceptance.{KeyEntry, key_of, Honest}
use Rattle.mb_model.specs.owners.Layers.{layer_of, unowned_layers}
use Rattle.mb_model.specs.owners.Lives.{splits, lives_of}
use Rattle.mb_model.specs.owners.Log.{figures_of, device_in, entries_of, last_of, layers_of, serial_in, serial_of, Ruled, RuledLog}
use Rattle.mb_model.specs.machine.Machine.{World, machine_step, Run}
use Rattle.mb_model.specs.machine.OrderChecks.{view_of, needs_succession}
use Rattle.mb_model.specs.machine.OrderEffects.{log_with, state_after_succession, state_after_order, ready_for}
use Rattle.mb_model.specs.machine.OrderEffects.{own_entry}
use Rattle.mb_model.specs.memories.Valid.{EachFollows, IsValidState, Valid}
use Rattle.mb_model_lemmas.proofs.ChainLemmas.{accepted_is_ruled, good_is_ruled, honest_is_front}
use Rattle.mb_model_lemmas.proofs.LineLemmas.{cons_same}
use Rattle.mb_model_lemmas.proofs.LogLemmas.{length-entries_of, RuledLog-front, serial_on}
use Rattle.mb_model_lemmas.proofs.OwnEntries.{appends_own}
use Rattle.mb_model_lemmas.proofs.ReaderLemmas.{lives_on, no_lives_unmade}
use Rattle.mb_model_lemmas.proofs.ValidStates.{follows_is_ruled}
use Rattle.mb_model_lemmas.proofs.ValidSteps.{run_valid}
use Rattle.mb_model_lemmas.proofs.ListLemmas.{contains_none, front_of}
use Rattle.mb_model_histories.specs.AgreementLaws.{IsPrefixOf, AreOfOnePast, HonestChainsAgree, OwnChainsAreHonest, ReplayedImagesPart, HonestChainsTellOfOneDevice, NothingIsOfNoDevice, HonestAmongOneIsHonest, LivesBeginWith, UnruledLivesMayNot, ShortenedChainsListLess}
use Rattle.mb_model_histories.specs.PowerLaws.{SmoothRun, power_off}
use Rattle.mb_model_histories.specs.RepairLaws.{CanBeGiven, plain_order, power_on, answered_done}
use Rattle.mb_model_histories.proofs.ObeyedLemmas.{and_false}
use Rattle.mb_model_histories.proofs.RepairLemmas.{layer_one_can_be_loaded}

-- ---- chains of one device

-- two prefixes of one list
of_one_past : (a b x y : List Entry) → a ++ x ≡ b ++ y → AreOfOnePast a b
of_one_past a b x y same = elim (cases_lt (length a) (length b)) [
  | inl less ↦ inl (front_of a b x y same (omega (arith, less)))
  | inr more ↦ inr (front_of b a y x (sym same) more)
]

pub honest_chains_agree : HonestChainsAgree
honest_chains_agree maker root one other log each good_one good_other honest_one honest_other =
    let first = honest_is_front maker one log good_one each honest_one in
    let second = honest_is_front root other log good_other each honest_other in
    of_one_past (entries_of one) (entries_of other) first.0 second.0 (sym first.1 ∙ second.1)

entries_split : (before : List SignedEntry) (signed : SignedEntry) (rest : List SignedEntry) → entries_of (before ++ signed ∷ rest) ≡ entries_of before ++ signed.entry ∷ entries_of rest
entries_split before signed rest = map-append (λ (s : SignedEntry). s.entry) before (signed ∷ rest)

stands_in : (before rest : List Entry) (entry : Entry) → Contains (before ++ entry ∷ rest) entry
stands_in before rest entry = Contains-append_right before (entry ∷ rest) entry (0, omega arith, refl)

pub own_chains_are_honest : OwnChainsAreHonest
own_chains_are_honest log more maker = record {
  first = λ signed rest split verifies. (entries_of (rest ++ more), ap (λ (l : List SignedEntry). entries_of (l ++ more)) split);
  later = λ before signed rest split some key named verifies.
      let whole : entries_of (log ++ more) ≡ entries_of before ++ signed.entry ∷ entries_of (rest ++ more) =
      ap (λ (l : List SignedEntry). entries_of (l ++ more)) split ∙ ap entries_of (append_assoc before (signed ∷ rest) more) ∙ entries_split before signed (rest ++ more) in
      subst (λ (l : List Entry). Contains l signed.entry) (sym whole) (stands_in (entries_of before) (entries_of (rest ++ more)) signed.entry);
}

-- ---- two devices that were one

pub smooth_is_run : (world next : World) (answered : List Answered) → SmoothRun world answered next → Run world answered next
smooth_is_run world next [] run = run
smooth_is_run world next (this ∷ rest) run = (run.0, machine_step run.1, smooth_is_run run.0 next rest run.2)

one_longer : (b : Bool) (state : State) (draw : List ℕ) → b ≡ false → length (if b then state_after_succession state draw else state).log ≡ length state.log
one_longer false state draw is = refl
one_longer true state draw is = absurd (grind (arith, is))

module _ (here : World) (state : State) (keyfile : Keyfile) (payload : Payload) (draw : List ℕ) where
  abbrev load : Order
  load = plain_order keyfile 1 (act.Load payload)

  loaded_length : length (entries_of (state_after_order state load draw).log) ≡ length state.log + 1
  loaded_length =
      let ready : State = ready_for state load draw in
      let one : length (log_with ready (own_entry ready load draw)) ≡ length ready.log + 1 = length-append ready.log _ in
      let long : length ready.log ≡ length state.log = one_longer (needs_succession (view_of state) load) state draw (and_false ((view_of state).uses == LAST_INDEX)) in
      length-entries_of (state_after_order state load draw).log ∙ ap length (appends_own state load draw) ∙ one ∙ ap (λ (n : ℕ). n + 1) long

  -- the code that the log names for layer 1
  loaded_code : IsValidState state → here.state ≡ Some state → CanBeGiven here state load draw
      → (layers_of (entries_of (state_after_order state load draw).log)).one.code ≡ (layer_of (state_after_order state load draw).layers 1).code
  loaded_code valid was given =
      let answered : List Answered = power_off ∷ power_on ∷ answered_done state load draw ∷ [] in
      let run : Run here answered given.last = smooth_is_run here given.last answered given.run in
      let sound : Valid given.last.state = run_valid here answered given.last (subst Valid (sym was) valid) run in
      let after : IsValidState (state_after_order state load draw) = subst Valid given.is sound in
      ap (λ (layers : Layers). layers.one.code) (sym after.layers)

front_equal : (a b : List Entry) → IsPrefixOf a b → length b ≡ length a → b ≡ a
front_equal a b front same = by front.0 front.1
  where
    by : (rest : List Entry) → b ≡ a ++ rest → b ≡ a
    by [] is = is ∙ append-nil a
    by (entry ∷ rest) is = absurd (omega (arith, ap length is, length-append a (entry ∷ rest), same))

past_equal : (a b : List Entry) → AreOfOnePast a b → length a ≡ length b → a ≡ b
past_equal a b (inl front) same = sym (front_equal a b front (sym same))
past_equal a b (inr front) same = front_equal b a front same

version_of : Option CodeName → ℕ
version_of None = 0
version_of (Some code) = code.version

pub replayed_images_part : ReplayedImagesPart
unfolding version_of
replayed_images_part here state keyfile first second draw valid was has can_one can_other differ room =
    let one : CanBeGiven here state (plain_order keyfile 1 (act.Load first)) draw = layer_one_can_be_loaded here state keyfile first draw valid was has can_one room in
    let other : CanBeGiven here state (plain_order keyfile 1 (act.Load second)) draw = layer_one_can_be_loaded here state keyfile second draw valid was has can_other room in (
      one,
      other,
      λ past.
          let same = past_equal _ _ past (loaded_length here state keyfile first draw ∙ sym (loaded_length here state keyfile second draw)) in
          let codes = sym (ap (λ (l : Layer). l.code) one.becomes) ∙ sym (loaded_code here state keyfile first draw valid was one)
          ∙ ap (λ (log : List Entry). (layers_of log).one.code) same ∙ loaded_code here state keyfile second draw valid was other ∙ ap (λ (l : Layer). l.code) other.becomes in
          differ (ap version_of codes),
    )

-- ---- one of many devices

some_entry : (entry : Entry) → entry ∷ [] ≢ []
some_entry entry e = absurd (omega (arith, ap length e))

-- a log begins with a birth, whose serial it names
birth_serial : (entry : Entry) (rest : List Entry) → RuledLog (entry ∷ rest) → Ruled (figures_of []) entry → serial_of (entry ∷ rest) ≡ serial_in entry
unfolding serial_of last_of
birth_serial (Birth version serial key layers) rest ruled first =
    serial_on rest (Birth version serial key layers ∷ []) serial (some_entry (Birth version serial key layers)) ruled refl
birth_serial (Change version position number kind layer cosigned layers kept next) rest ruled first = absurd (first.0 refl)
birth_serial (NewKey position number key_number layer kind key) rest ruled first = absurd (first.0 refl)
birth_serial (Succession position key) rest ruled first = absurd (first.0 refl)

pub honest_chains_tell_of_one_device : HonestChainsTellOfOneDevice
honest_chains_tell_of_one_device logs maker birth rest each good honest =
    let chain : List SignedEntry = birth ∷ rest in
    let first = honest.first birth rest refl (good [] birth rest refl).certified in
    let log : List SignedEntry = first.0 in
    let follows : EachFollows log = All-contains EachFollows logs log each first.1 in
    let alone : Honest chain maker (entries_of log) = record {
      first = λ signed more split verifies. (first.2.0, first.2.1 ∙ ap (λ (s : SignedEntry). s.entry ∷ first.2.0) (cons_same birth signed rest more split).0);
      later = λ before signed more split some key named verifies. honest.later before signed more split some log first.1 key named verifies;
    } in
    let front = honest_is_front maker chain log good follows alone in
    let start : Ruled (figures_of []) birth.entry = (good [] birth rest refl).ruled in
    let own : serial_of (entries_of chain) ≡ serial_in birth.entry = birth_serial birth.entry (entries_of rest) (good_is_ruled maker chain good) start in
    let whole : RuledLog (birth.entry ∷ first.2.0) = subst RuledLog first.2.1 (follows_is_ruled log follows) in
    let there : serial_of (entries_of log) ≡ serial_in birth.entry = ap serial_of first.2.1 ∙ birth_serial birth.entry first.2.0 whole start in
    (log, first.1, front, own ∙ sym there)

contains_one : (log : List SignedEntry) → Contains (log ∷ []) log
contains_one log = (0, omega arith, refl)

only_one : (log other : List SignedEntry) → Contains (log ∷ []) other → other ≡ log
only_one log other within =
    let P : List SignedEntry → Type 0 = λ one. one ≡ log in
    All-contains P (log ∷ []) other (All-cons P log [] refl (All-nil P)) within

pub honest_among_one_is_honest : HonestAmongOneIsHonest
honest_among_one_is_honest log maker entries = (
  λ among. record {
    first = λ signed rest split verifies.
        let one = among.first signed rest split verifies in
        (one.2.0, ap entries_of (sym (only_one log one.0 one.1)) ∙ one.2.1);
    later = λ before signed rest split some key named verifies. among.later before signed rest split some log (contains_one log) key named verifies;
  },
  λ honest. record {
    first = λ signed rest split verifies. (log, contains_one log, honest.first signed rest split verifies);
    later = λ before signed rest split some other within key named verifies.
        let same : other ≡ log = only_one log other within in
        subst (λ (l : List SignedEntry). Contains (entries_of l) signed.entry) (sym same)
        (honest.later before signed rest split some key (subst (λ (l : List SignedEntry). Any (λ entry. device_in entry ≡ Some key) (entries_of l)) same named) verifies);
  },
)

-- ---- longer chains

begins_after_one : (log : List Entry) (entry : Entry) (n : ℕ) (o : Option KeyEntry) → key_of log n ≡ o → RuledLog (log ++ entry ∷ [])
    → (rest : List _) × (lives_of (log ++ entry ∷ []) n ≡ lives_of log n ++ rest)
begins_after_one log entry n None is ruled =
    let none = no_lives_unmade log n is in
    (lives_of (log ++ entry ∷ []) n, sym (ap (λ before. before ++ lives_of (log ++ entry ∷ []) n) none))
begins_after_one log entry n (Some made) is ruled = (_, lives_on log entry n made ruled is)

pub lives_begin_with : LivesBeginWith
lives_begin_with log [] n ruled = ([], ap (λ (l : List Entry). lives_of l n) (append-nil log) ∙ sym (append-nil (lives_of log n)))
lives_begin_with log (entry ∷ more) n ruled =
    let whole : (log ++ entry ∷ []) ++ more ≡ log ++ entry ∷ more = append_assoc log (entry ∷ []) more in
    let ruled_on : RuledLog ((log ++ entry ∷ []) ++ more) = subst RuledLog (sym whole) ruled in
    let one = begins_after_one log entry n (key_of log n) refl (RuledLog-front (log ++ entry ∷ []) more ruled_on) in
    let rest = lives_begin_with (log ++ entry ∷ []) more n ruled_on in (
      one.0 ++ rest.0,
      ap (λ (l : List Entry). lives_of l n) (sym whole) ∙ rest.1 ∙ ap (λ before. before ++ rest.0) one.1 ∙ append_assoc (lives_of log n) one.0 rest.0,
    )

-- two entries that make a key with the number 0, and a change in which it goes on
any_key : PublicKey
any_key = record { tree = H5; chains = W4; identifier = []; root = [] }

two_made : List Entry
two_made = NewKey 0 1 0 2 Epoch any_key ∷ NewKey 1 2 0 2 Epoch any_key ∷ []

change_after : Entry
change_after = Change 2 2 3 Load 2 (record { two = false; three = false }) unowned_layers (record { two = true; three = true }) None

second_number : List Configuration → ℕ
second_number [] = 0
second_number (first ∷ []) = 0
second_number (first ∷ second ∷ rest) = second.number

pub unruled_lives_may_not : UnruledLivesMayNot
unfolding lives_of splits two_made change_after second_number
unruled_lives_may_not = (two_made, change_after ∷ [], 0, λ rest same. absurd (omega (arith, ap second_number same)))

pub shortened_chains_list_less : ShortenedChainsListLess
shortened_chains_list_less maker root short long n one other accepts accepts_long front =
    let ruled : RuledLog (entries_of accepts.chain.entries ++ front.0) = subst RuledLog front.1 (accepted_is_ruled root long n other accepts_long) in
    let more = lives_begin_with (entries_of accepts.chain.entries) front.0 n ruled in (
      more.0,
      ap (λ (r : Report). r.lives) accepts_long.report_is ∙ ap (λ (log : List Entry). lives_of log n) front.1 ∙ more.1
          ∙ ap (λ lives. lives ++ more.0) (sym (ap (λ (r : Report). r.lives) accepts.report_is)),
    )

-- ---- chains without entries

no_entry : {X : Type 0} (before : List X) (x : X) (rest : List X) → [] ≡ before ++ x ∷ rest → ⊥
no_entry before x rest split = omega (arith, ap length split, length-append before (x ∷ rest))

pub nothing_is_of_no_device : NothingIsOfNoDevice
nothing_is_of_no_device maker = (
  λ before signed rest split. absurd (no_entry before signed rest split),
  record {
    first = λ signed rest split verifies. absurd (no_entry [] signed rest split);
    later = λ before signed rest split some log within. absurd (no_entry before signed rest split);
  },
  λ log within. contains_none log within,
)
