-- A statement that is attached to the log of the device, then or later, is accepted.
use Rattle.std.proofs.Common.{◌≡◌, ◌≢◌, ◌≤◌, ◌<◌, ℕ, ◌+◌, List, [], ◌∷◌, ◌++◌, length, Option, None, Some, Bool, true, false, cond, refl, sym, ap, subst, ◌∙◌, arith, append_assoc}
use Rattle.std.specs.Prelude.{nat_lt, not, take_while, All, Contains, IsSomeAnd}
use Rattle.std.proofs.lemmas.Bool.{le-ltb}
use Rattle.std.proofs.lemmas.List.{map-append}
use Rattle.std.proofs.lemmas.List.Elements.{All-nil, All-cons, All-head, All-tail, All-append, All-map, All-weaker}
use Rattle.std.proofs.lemmas.List.Sums.{sum_by-cons, take_while-cons}
use Rattle.std.proofs.lemmas.Option.{same_Some}
use Rattle.mb_format.specs.Format.{IsBytes, Spells, IsClearWhole}
use Rattle.mb_format.proofs.Whole.{IsClearWhole-from_exact}
use Rattle.mb_model.specs.declared.key.PublicKey.{PublicKey}
use Rattle.mb_model.specs.declared.order.KeyKind.{KeyKind}
use Rattle.mb_model.specs.declared.order.KeyKind.TheVariants as kinds
use Rattle.mb_model.specs.declared.entry.Entry.{Entry}
use Rattle.mb_model.specs.declared.entry.Entry.TheVariants.{Birth, Change, NewKey, Succession}
use Rattle.mb_model.specs.declared.entry.SignedEntry.{SignedEntry}
use Rattle.mb_model.specs.declared.entry.Said.{Said}
use Rattle.mb_model.specs.declared.entry.Statement.{Statement}
use Rattle.mb_model.specs.declared.event.Answered.{Answered}
use Rattle.mb_model.specs.declared.event.Event.{Event}
use Rattle.mb_model.specs.declared.event.Event.TheVariants as event
use Rattle.mb_model.specs.declared.entry.Chain.{Chain}
use Rattle.mb_model.specs.declared.region.RegionKey.{RegionKey}
use Rattle.mb_model.specs.declared.reply.Reply.{Reply}
use Rattle.mb_model.specs.declared.reply.Reply.TheVariants as reply
use Rattle.mb_model.specs.declared.state.State.{State}
use Rattle.mb_model.specs.signatures.Merkle.{Verifies}
use Rattle.mb_model.specs.owners.Log.{figures_of, entries_of, is_change, serial_in, last_of, number_of, serial_of, Ruled, RuledLog}
use Rattle.mb_model.specs.owners.Lives.{ends_keys, Alive}
use Rattle.mb_model.specs.signatures.Signing.{public_of, signature_of}
use Rattle.mb_model.specs.records.ChainFormat.{said_format, statement_format, chain_format}
use Rattle.mb_model.specs.chains.Script.{IsScriptEvent}
use Rattle.mb_model.proofs.EntryFormatLaws.{statement_exact, chain_exact}
use Rattle.mb_model.specs.machine.SignedTexts.{said_text}
use Rattle.mb_model.specs.owners.Regions.{region_of}
use Rattle.mb_model.specs.machine.Machine.{World, Step, Run}
use Rattle.mb_model.specs.memories.Valid.{IsValidState, Valid}
use Rattle.mb_model.specs.chains.Acceptance.{AreGood, IsBornOf, KeyEntry, key_of, IsStated, IfStatement, IsCurrent, report_of, Accepts}
use Rattle.mb_model_lemmas.proofs.LogLemmas.{last_of-more, RuledLog-front, number_of-append, number-le, no_birth}
use Rattle.mb_model_lemmas.proofs.ValidStates.{valid_is_ruled}
use Rattle.mb_model_lemmas.proofs.ValidSteps.{step_valid, run_valid}
use Rattle.mb_model_lemmas.proofs.ReaderLemmas.{living_is_flagged, not_true}
use Rattle.mb_model_lemmas.proofs.SignatureLemmas.{length-signature_of, signature_verifies}
use Rattle.mb_model_lemmas.proofs.Splits.{All-from_splits}
use Rattle.mb_model.specs.machine.Runs.{BeginsWith, worlds_of, StaysAccepted, IsAcceptedIn, StatementsStayAccepted}
use Rattle.mb_model.specs.chains.Attach.{is_change_above, bare_chain, cut_at, stated_chain}
use Rattle.mb_model_lemmas.proofs.AttachLemmas.{stated_allowed}
use Rattle.mb_model_memory.specs.Storable.{IsStorableState, Storable}
use Rattle.mb_model_memory.proofs.StorableChains.{bare_allowed}
use Rattle.mb_model_memory.proofs.StorableOrders.{number_small}
use Rattle.mb_model_memory.proofs.StorableSteps.{step_keeps_storable, run_keeps_storable}
use Rattle.mb_model_runs.specs.StatementLaws.{statement_saying, AsksFor, IsStatedIn, key_entry_of}
use Rattle.mb_model_runs.proofs.GrowthLemmas.{logs_grow}
use Rattle.mb_model_runs.proofs.BirthLemmas.{log_is_good, key_of-split}
use Rattle.mb_model_runs.proofs.KeyLemmas.{key_lives}
use Rattle.mb_model_runs.proofs.SignedSteps.{step_signs}

-- the event is one that a script can give
abbrev IsOfScript : Answered → Type 0
IsOfScript this = IsScriptEvent this.event

-- a run of such events leads from one world to the other
abbrev LeadsTo : World → World → Type 0
LeadsTo world later = (part : List Answered) × All IsOfScript part × Run world part later

pub statement_of_key : (world : World) (given : Event) (n index : ℕ) (statement : List ℕ) (next : World) → Step world given (reply.Signed n index statement) next
    → (state : State) × (world.state ≡ Some state) × (L : ℕ) × (said : Said) × AsksFor given L n said × IsStatedIn state L said n index statement
statement_of_key world given n index statement next step =
    let it = step_signs world given n index statement next step in (
      it.state,
      it.was,
      it.L,
      it.said,
      it.asked,
      record {
        key = it.signs.key;
        within = it.signs.within;
        number_is = it.signs.number_is;
        index_is = it.signs.index_is;
        left = it.signs.few;
        statement_is = it.signs.statement_is;
      },
    )

-- ---- lists

-- what passes at the front is taken
taken_past : {X : Type 0} (p : X → Bool) (front back : List X) → All (λ x. p x ≡ true) front → take_while p (front ++ back) ≡ front ++ take_while p back
taken_past p [] back all = refl
taken_past p (x ∷ front) back all =
    take_while-cons p x (front ++ back)
    ∙ ap (λ b. cond b (x ∷ take_while p (front ++ back)) []) (All-head (λ y. p y ≡ true) x front all)
    ∙ ap (λ t. x ∷ t) (taken_past p front back (All-tail (λ y. p y ≡ true) x front all))

-- the first of a list that pass, and the others
record Taken {X : Type 0} (p : X → Bool) (xs taken : List X) : Type 0 where
  tail : List X
  split : xs ≡ taken ++ tail
  pass : All (λ x. p x ≡ true) taken

taken_nil : {X : Type 0} (p : X → Bool) (xs : List X) → Taken p xs []
taken_nil p xs = record { tail = xs; split = refl; pass = All-nil (λ x. p x ≡ true) }

taken_cons : {X : Type 0} (p : X → Bool) (x : X) (xs ts : List X) → p x ≡ true → Taken p xs ts → Taken p (x ∷ xs) (x ∷ ts)
taken_cons p x xs ts own rest = record {
  tail = rest.tail;
  split = ap (λ t. x ∷ t) rest.split;
  pass = All-cons (λ y. p y ≡ true) x ts own rest.pass;
}

taken_by : {X : Type 0} (p : X → Bool) (x : X) (xs ts : List X) (b : Bool) → p x ≡ b → Taken p xs ts → Taken p (x ∷ xs) (cond b (x ∷ ts) [])
taken_by p x xs ts true own rest = taken_cons p x xs ts own rest
taken_by p x xs ts false own rest = taken_nil p (x ∷ xs)

taken : {X : Type 0} (p : X → Bool) (xs : List X) → Taken p xs (take_while p xs)
taken p [] = taken_nil p []
taken p (x ∷ xs) = subst (Taken p (x ∷ xs)) (sym (take_while-cons p x xs)) (taken_by p x xs (take_while p xs) (p x) refl (taken p xs))

-- ---- entries

-- the entry may stand before the first change after the configuration n
abbrev stays_in : ℕ → SignedEntry → Bool
stays_in n signed = not (is_change_above n signed.entry)

no_higher : (log before : List Entry) (entry : Entry) (rest : List Entry) → RuledLog log → log ≡ before ++ entry ∷ rest → is_change_above (number_of log) entry ≡ false
no_higher log before (Birth version serial key layers) rest ruled split = refl
no_higher log before (Change version position number kind layer cosigned layers kept next) rest ruled split =
    le-ltb (number_of log) number (number-le log before version position number kind layer cosigned layers kept next rest ruled split)
no_higher log before (NewKey position number key_number layer kind key) rest ruled split = refl
no_higher log before (Succession position key) rest ruled split = refl

split_entries : (log before : List SignedEntry) (signed : SignedEntry) (rest : List SignedEntry) → log ≡ before ++ signed ∷ rest
    → entries_of log ≡ entries_of before ++ signed.entry ∷ entries_of rest
split_entries log before signed rest split = ap entries_of split ∙ map-append (λ (s : SignedEntry). s.entry) before (signed ∷ rest)

-- a log has no change with a number above its own
all_stay : (log : List SignedEntry) → RuledLog (entries_of log) → All (λ signed. stays_in (number_of (entries_of log)) signed ≡ true) log
all_stay log ruled =
    All-from_splits (λ (signed : SignedEntry). stays_in (number_of (entries_of log)) signed ≡ true) log
    (λ before signed rest split.
    ap not (no_higher (entries_of log) (entries_of before) signed.entry (entries_of rest) ruled (split_entries log before signed rest split)))

-- no change, and no birth
record IsQuiet (signed : SignedEntry) : Type 0 where
  change : is_change signed.entry ≡ false
  serial : serial_in signed.entry ≡ None

stays_below : (n m number : ℕ) → n ≤ m → number ≡ m + 1 → nat_lt n number ≡ false → ⊥
stays_below n m number low counted stays = grind (arith, low, counted, stays)

no_change : (n : ℕ) (before : List Entry) (entry : Entry) → n ≤ number_of before → Ruled (figures_of before) entry → is_change_above n entry ≡ false → is_change entry ≡ false
no_change n before (Birth version serial key layers) low ruled stays = refl
no_change n before (Change version position number kind layer cosigned layers kept next) low ruled stays =
    absurd (stays_below n (number_of before) number low ruled.1.counted stays)
no_change n before (NewKey position number key_number layer kind key) low ruled stays = refl
no_change n before (Succession position key) low ruled stays = refl

quiet_at : (past : List Entry) (n : ℕ) (signed : SignedEntry) → length past ≢ 0 → n ≤ number_of past → Ruled (figures_of past) signed.entry → stays_in n signed ≡ true → IsQuiet signed
quiet_at past n signed some low ruled stays = record {
  change = no_change n past signed.entry low ruled (not_true (is_change_above n signed.entry) stays);
  serial = no_birth past signed.entry (λ none. some (ap length none)) ruled;
}

no_entries : (a b : List Entry) → a ≢ [] → length (a ++ b) ≢ 0
no_entries [] b some = absurd (some refl)
no_entries (x ∷ a) b some = λ none. absurd (omega (arith, none))

-- the entries after a log that stand before the next change are quiet
quiet_after : (log cut tail : List SignedEntry) → RuledLog (entries_of (log ++ cut ++ tail)) → entries_of log ≢ []
    → All (λ signed. stays_in (number_of (entries_of log)) signed ≡ true) cut → All IsQuiet cut
quiet_after log cut tail ruled some stay =
    let n : ℕ = number_of (entries_of log) in
    All-from_splits IsQuiet cut
    (λ before signed rest split.
    let past : List Entry = entries_of log ++ entries_of before in
    let stays : stays_in n signed ≡ true = stay_at cut before signed rest split (λ s. stays_in n s ≡ true) stay in
    let whole : log ++ cut ++ tail ≡ (log ++ before) ++ signed ∷ (rest ++ tail) =
    ap (λ c. log ++ c ++ tail) split ∙ ap (λ l. l ++ tail) (sym (append_assoc log before (signed ∷ rest))) ∙ append_assoc (log ++ before) (signed ∷ rest) tail in
    let fronts : entries_of (log ++ before) ≡ past = map-append (λ (s : SignedEntry). s.entry) log before in
    let here : Ruled (figures_of past) signed.entry = subst (λ (es : List Entry). Ruled (figures_of es) signed.entry) fronts
    (ruled (entries_of (log ++ before)) signed.entry (entries_of (rest ++ tail)) (split_entries (log ++ cut ++ tail) (log ++ before) signed (rest ++ tail) whole)) in
    let more : number_of past ≡ n + number_of (entries_of before) = number_of-append (entries_of log) (entries_of before) in
    quiet_at past n signed (no_entries (entries_of log) (entries_of before) some) (omega (arith, more)) here stays)
  where
    stay_at : (cut before : List SignedEntry) (signed : SignedEntry) (rest : List SignedEntry) → cut ≡ before ++ signed ∷ rest → (P : SignedEntry → Type 0) → All P cut → P signed
    stay_at cut [] signed rest split P all = All-head P signed rest (subst (All P) split all)
    stay_at cut (b ∷ before) signed rest split P all = stay_at (before ++ signed ∷ rest) before signed rest refl P (All-tail P b (before ++ signed ∷ rest) (subst (All P) split all))

none_changes : (log : List SignedEntry) → All IsQuiet log → number_of (entries_of log) ≡ 0
unfolding number_of
none_changes [] quiet = refl
none_changes (signed ∷ rest) quiet =
    let first : is_change signed.entry ≡ false = (All-head IsQuiet signed rest quiet).change in
    let zero : ◌≡◌ {A = ℕ} (cond (is_change signed.entry) 1 0) 0 = ap (λ (b : Bool). let n : ℕ = cond b 1 0 in n) first in
    omega (arith, sum_by-cons (λ e. cond (is_change e) 1 0) signed.entry (entries_of rest), zero, none_changes rest (All-tail IsQuiet signed rest quiet))

none_ends : (kind : KeyKind) (L : ℕ) (entry : Entry) → is_change entry ≡ false → ends_keys kind L entry ≡ false
none_ends kinds.Epoch L (Birth version serial key layers) e = refl
none_ends kinds.Epoch L (Change version position number kind layer cosigned layers kept next) e = absurd (grind (arith, e))
none_ends kinds.Epoch L (NewKey position number key_number layer kind key) e = refl
none_ends kinds.Epoch L (Succession position key) e = refl
none_ends kinds.Configuration L (Birth version serial key layers) e = refl
none_ends kinds.Configuration L (Change version position number kind layer cosigned layers kept next) e = absurd (grind (arith, e))
none_ends kinds.Configuration L (NewKey position number key_number layer kind key) e = refl
none_ends kinds.Configuration L (Succession position key) e = refl

-- ---- the chain

AreGood-front : (maker : PublicKey) (log rest : List SignedEntry) → AreGood maker (log ++ rest) → AreGood maker log
AreGood-front maker log rest good =
    λ before signed mid split. good before signed (mid ++ rest) (ap (λ es. es ++ rest) split ∙ append_assoc before (signed ∷ mid) rest)

-- a key that is alive, after quiet entries
alive_on : (log : List Entry) (cut : List SignedEntry) (n L : ℕ) (kind : KeyKind) (key : PublicKey) → All IsQuiet cut → Alive log n L kind key → Alive (log ++ entries_of cut) n L kind key
alive_on log cut n L kind key quiet alive =
    let own : Entry = NewKey alive.position alive.number n L kind key in
    let last : All (λ (e : Entry). ends_keys kind L e ≡ false) (entries_of cut) =
    All-map (λ (e : Entry). ends_keys kind L e ≡ false) (λ (s : SignedEntry). s.entry) cut
    (All-weaker IsQuiet (λ (s : SignedEntry). ends_keys kind L s.entry ≡ false) (λ s q. none_ends kind L s.entry q.change) cut quiet) in
    record {
      before = alive.before;
      position = alive.position;
      number = alive.number;
      later = alive.later ++ entries_of cut;
      split = ap (λ es. es ++ entries_of cut) alive.split ∙ append_assoc alive.before (own ∷ alive.later) (entries_of cut);
      lasts = All-append (λ (e : Entry). ends_keys kind L e ≡ false) alive.later (entries_of cut) alive.lasts last;
    }

serial_on : (log : List Entry) (cut : List SignedEntry) → All IsQuiet cut → serial_of (log ++ entries_of cut) ≡ serial_of log
unfolding serial_of
serial_on log cut quiet =
    last_of-more serial_in log (entries_of cut)
    (All-map (λ (e : Entry). serial_in e ≡ None) (λ (s : SignedEntry). s.entry) cut
    (All-weaker IsQuiet (λ (s : SignedEntry). serial_in s.entry ≡ None) (λ s q. q.serial) cut quiet))

pub stated_by : (o : Option (List ℕ)) (serial : List ℕ) (P : List ℕ → Type 0) → o ≡ Some serial → P serial → IsSomeAnd o P
stated_by o serial P is holds = subst (λ (o : Option (List ℕ)). IsSomeAnd o P) (sym is) holds

-- what a verifier looks at
record IsRight (maker : PublicKey) (entries : List SignedEntry) (n : ℕ) (made : KeyEntry) (statement : Statement) : Type 0 where
  good : AreGood maker entries
  named : key_of (entries_of entries) n ≡ Some made
  current : IsCurrent (entries_of entries) n made statement

module _ (maker : PublicKey) (state : State) (L : ℕ) (key : RegionKey) (said : Said) (valid : IsValidState state) (within : Contains (region_of state L).keys key) (few : key.uses < 32)
    (cut : List SignedEntry) (quiet : All IsQuiet cut) (ruled : RuledLog (entries_of state.log ++ entries_of cut)) where
  is_living : Alive (entries_of state.log ++ entries_of cut) key.number L key.kind (public_of key.seed)
  is_living = alive_on (entries_of state.log) cut key.number L key.kind (public_of key.seed) quiet (key_lives state L key valid within)

  is_named : key_of (entries_of state.log ++ entries_of cut) key.number ≡ Some (key_entry_of L key)
  is_named =
      let alive = is_living in
      ap (λ (es : List Entry). key_of es key.number) alive.split
      ∙ key_of-split alive.before alive.position alive.number key.number L key.kind (public_of key.seed) alive.later (subst RuledLog alive.split ruled)

  is_current : IsCurrent (entries_of state.log ++ entries_of cut) key.number (key_entry_of L key) (statement_saying state key said)
  unfolding statement_saying
  is_current =
      let n : ℕ = number_of (entries_of state.log) in
      let text : List ℕ = said_text state.serial key.number n said in
      let verifies : Verifies (public_of key.seed) text (signature_of key.seed key.uses text) = signature_verifies key.seed key.uses text few in
      let total : number_of (entries_of state.log ++ entries_of cut) ≡ n + number_of (entries_of cut) = number_of-append (entries_of state.log) (entries_of cut) in
      let none : number_of (entries_of cut) ≡ 0 = none_changes cut quiet in
      record {
        signed = stated_by (serial_of (entries_of state.log ++ entries_of cut)) state.serial (λ serial. Verifies (public_of key.seed) (said_text serial key.number n said) (signature_of key.seed key.uses text))
            (serial_on (entries_of state.log) cut quiet ∙ valid.serial) verifies;
        number = omega (arith, total, none);
        alive = living_is_flagged (entries_of state.log ++ entries_of cut) key.number (key_entry_of L key) is_living;
      }

  is_right : AreGood maker (state.log ++ cut) → IsRight maker (state.log ++ cut) key.number (key_entry_of L key) (statement_saying state key said)
  is_right good =
      let same : entries_of state.log ++ entries_of cut ≡ entries_of (state.log ++ cut) = sym (map-append (λ (s : SignedEntry). s.entry) state.log cut) in
      record {
        good = good;
        named = subst (λ (es : List Entry). key_of es key.number ≡ Some (key_entry_of L key)) same is_named;
        current = subst (λ (es : List Entry). IsCurrent es key.number (key_entry_of L key) (statement_saying state key said)) same is_current;
      }

-- ---- the cut

cut_is : (log more : List SignedEntry) → log ≢ [] → RuledLog (entries_of log) → cut_at (number_of (entries_of log)) (log ++ more) ≡ log ++ take_while (stays_in (number_of (entries_of log))) more
cut_is [] more some ruled = absurd (some refl)
cut_is (birth ∷ rest) more some ruled =
    let n : ℕ = number_of (entries_of (birth ∷ rest)) in
    ap (λ t. birth ∷ t) (taken_past (stays_in n) rest more (All-tail (λ (signed : SignedEntry). stays_in n signed ≡ true) birth rest (all_stay (birth ∷ rest) ruled)))

number_stated : (state : State) (key : RegionKey) (said : Said) → (statement_saying state key said).number ≡ number_of (entries_of state.log)
unfolding statement_saying
number_stated state key said = refl

-- the log of a valid state has a birth
pub some_log : (state : State) → IsValidState state → entries_of state.log ≢ []
unfolding serial_of last_of
some_log state valid none =
    let no : None ≡ Some state.serial = ap serial_of (sym none) ∙ valid.serial in
    absurd (grind (arith, no))

some_signed : (log : List SignedEntry) → entries_of log ≢ [] → log ≢ []
some_signed log some none = some (ap entries_of none)

right_later : (maker : PublicKey) (state later : State) (L : ℕ) (key : RegionKey) (said : Said) → IsValidState state → IsValidState later → BeginsWith later.log state.log
    → Contains (region_of state L).keys key → key.uses < 32 → IsBornOf maker later.log
    → IsRight maker (cut_at (statement_saying state key said).number later.log) key.number (key_entry_of L key) (statement_saying state key said)
right_later maker state later L key said valid valid_later begins within few born =
    let past : List SignedEntry = state.log in
    let more : List SignedEntry = begins.0 in
    let n : ℕ = number_of (entries_of past) in
    let cut : List SignedEntry = take_while (stays_in n) more in
    let front = taken (stays_in n) more in
    let some : entries_of past ≢ [] = some_log state valid in
    let joined : later.log ≡ past ++ cut ++ front.tail = begins.1 ∙ ap (λ t. past ++ t) front.split ∙ sym (append_assoc past cut front.tail) in
    let ruled : RuledLog (entries_of (past ++ cut ++ front.tail)) = subst (λ (log : List SignedEntry). RuledLog (entries_of log)) joined (valid_is_ruled later valid_later) in
    let quiet : All IsQuiet cut = quiet_after past cut front.tail ruled some front.pass in
    let entries : entries_of (past ++ cut ++ front.tail) ≡ entries_of past ++ entries_of cut ++ entries_of front.tail =
    map-append (λ (s : SignedEntry). s.entry) (past ++ cut) front.tail ∙ ap (λ es. es ++ entries_of front.tail) (map-append (λ (s : SignedEntry). s.entry) past cut) in
    let fronts : RuledLog (entries_of past ++ entries_of cut) = RuledLog-front (entries_of past ++ entries_of cut) (entries_of front.tail) (subst RuledLog entries ruled) in
    let good : AreGood maker (past ++ cut) = AreGood-front maker (past ++ cut) front.tail (subst (AreGood maker) joined (log_is_good maker later valid_later born)) in
    let right = is_right maker state L key said valid within few cut quiet fronts good in
    let at : cut_at (statement_saying state key said).number later.log ≡ past ++ cut =
    ap (λ (m : ℕ). cut_at m later.log) (number_stated state key said) ∙ ap (cut_at n) begins.1 ∙ cut_is past more (some_signed past some) (valid_is_ruled state valid) in
    subst (λ (es : List SignedEntry). IsRight maker es key.number (key_entry_of L key) (statement_saying state key said)) (sym at) right

pub statement_accepted : (maker : PublicKey) (world : World) (answered : List Answered) (next : World) (state later : State) (L : ℕ) (key : RegionKey) (said : Said) (bytes : List ℕ)
    → Valid world.state → world.state ≡ Some state → Contains (region_of state L).keys key → key.uses < 32
    → Run world answered next → next.state ≡ Some later → IsBornOf maker later.log
    → Spells chain_format bytes (stated_chain later.log (statement_saying state key said))
    → Accepts maker bytes key.number (report_of (stated_chain later.log (statement_saying state key said)) key.number (key_entry_of L key))
statement_accepted maker world answered next state later L key said bytes valid was within few run is born spelled =
    let here : IsValidState state = subst Valid was valid in
    let there : IsValidState later = subst Valid is (run_valid world answered next valid run) in
    let grown = logs_grow world answered next run later is in
    let same : grown.0 ≡ state = same_Some grown.0 state (sym grown.1 ∙ was) in
    let begins : BeginsWith later.log state.log = subst (λ (s : State). BeginsWith later.log s.log) same grown.2 in
    let right = right_later maker state later L key said here there begins within few born in
    record {
      chain = stated_chain later.log (statement_saying state key said);
      spelled = spelled;
      good = right.good;
      made = key_entry_of L key;
      named = right.named;
      current = right.current;
      report_is = refl;
    }

saying_allowed : (state : State) (key : RegionKey) (said : Said) → IsStorableState state → said_format.Allowed said → statement_format.Allowed (statement_saying state key said)
unfolding statement_saying statement_format
saying_allowed state key said stored fits = (number_small state stored, (fits, length-signature_of key.seed key.uses (said_text state.serial key.number (number_of (entries_of state.log)) said)))

-- what an event was answered by, with the log of a state to which a run leads from there
accepted_there : (maker : PublicKey) (world : World) (given : Event) (n index : ℕ) (bytes : List ℕ) (mid : World) (answered : List Answered) (next : World)
    → IsScriptEvent given → All IsOfScript answered → Valid world.state → Storable world.state
    → Step world given (reply.Signed n index bytes) mid → Run mid answered next
    → (later : State) → next.state ≡ Some later → IsBornOf maker later.log → StaysAccepted maker later.log n bytes
accepted_there maker world given n index bytes mid answered next script scripts valid stored step run later is born =
    let it = step_signs world given n index bytes mid step in
    let key : RegionKey = it.signs.key in
    let said : Statement = statement_saying it.state key it.said in
    let this : Answered = record { event = given; reply = reply.Signed n index bytes } in
    let said_allowed : statement_format.Allowed said = saying_allowed it.state key it.said (subst Storable it.was stored) (it.fits script) in
    let all : All IsOfScript (this ∷ answered) = All-cons IsOfScript this answered script scripts in
    let whole : Run world (this ∷ answered) next = (mid, step, run) in
    let later_stored : IsStorableState later = subst Storable is (run_keeps_storable world (this ∷ answered) next all valid stored whole) in
    let later_valid : IsValidState later = subst Valid is (run_valid world (this ∷ answered) next valid whole) in
    let attached : Spells chain_format (chain_format.spelling (stated_chain later.log said)) (stated_chain later.log said) =
    record { allowed = stated_allowed (bare_chain later.log) said (bare_allowed later later_valid later_stored) said_allowed; whole = refl } in
    record {
      statement = said;
      spelled = record { allowed = said_allowed; whole = it.signs.statement_is };
      chain = chain_format.spelling (stated_chain later.log said);
      attached = attached;
      report = report_of (stated_chain later.log said) n (key_entry_of it.L key);
      accepted =
          subst (λ (m : ℕ). Accepts maker (chain_format.spelling (stated_chain later.log said)) m (report_of (stated_chain later.log said) m (key_entry_of it.L key))) it.signs.number_is
          (statement_accepted maker world (this ∷ answered) next it.state later it.L key it.said (chain_format.spelling (stated_chain later.log said)) valid it.was it.signs.within
          it.signs.few whole is born attached);
    }

-- worlds to which a run of events of a script leads
scripted_worlds : (world : World) (answered : List Answered) (next : World) (run : Run world answered next) → All IsOfScript answered
    → All (LeadsTo world) (worlds_of world answered next run)
scripted_worlds world [] next run scripts = All-cons (LeadsTo world) world [] ([], scripts, refl) (All-nil (LeadsTo world))
scripted_worlds world (this ∷ rest) next run scripts =
    let first : IsOfScript this = All-head IsOfScript this rest scripts in
    let more = scripted_worlds run.0 rest next run.2 (All-tail IsOfScript this rest scripts) in
    All-cons (LeadsTo world) world (worlds_of run.0 rest next run.2) ([], All-nil IsOfScript, refl)
    (All-weaker (LeadsTo run.0) (LeadsTo world) (λ w leads. (this ∷ leads.0, All-cons IsOfScript this leads.0 first leads.1, (run.0, run.1, leads.2))) (worlds_of run.0 rest next run.2) more)

pub answer_stays_accepted : (world : World) (given : Event) (n index : ℕ) (bytes : List ℕ) (mid : World) (answered : List Answered) (next : World) (run : Run mid answered next)
    → IsScriptEvent given → All IsOfScript answered → Valid world.state → Storable world.state → Step world given (reply.Signed n index bytes) mid
    → All (IsAcceptedIn n bytes) (worlds_of mid answered next run)
answer_stays_accepted world given n index bytes mid answered next run script scripts valid stored step =
    All-weaker (LeadsTo mid) (IsAcceptedIn n bytes)
    (λ w leads maker later is born. accepted_there maker world given n index bytes mid leads.0 w script leads.1 valid stored step leads.2 later is born)
    (worlds_of mid answered next run) (scripted_worlds mid answered next run scripts)

-- so it is for each statement of a run
pub statements_stay_accepted : (world : World) (answered : List Answered) (next : World) (run : Run world answered next) → All IsOfScript answered → Valid world.state → Storable world.state
    → StatementsStayAccepted world answered next run
statements_stay_accepted world [] next run scripts valid stored = tt
statements_stay_accepted world (this ∷ rest) next run scripts valid stored =
    let first : IsOfScript this = All-head IsOfScript this rest scripts in
    let others : All IsOfScript rest = All-tail IsOfScript this rest scripts in (
      λ n index bytes is.
          answer_stays_accepted world this.event n index bytes run.0 rest next run.2 first others valid stored (subst (λ (r : Reply). Step world this.event r run.0) is run.1),
      statements_stay_accepted run.0 rest next run.2 others (step_valid world this.event this.reply run.0 valid run.1)
          (step_keeps_storable world this.event this.reply run.0 first valid stored run.1),
    )

-- ---- statements of other keys

statement_clear : IsClearWhole statement_format
statement_clear = IsClearWhole-from_exact statement_exact

chain_clear : IsClearWhole chain_format
chain_clear = IsClearWhole-from_exact chain_exact

-- what a verifier has looked at, where the chain is this one
current_in : (maker : PublicKey) (log : List SignedEntry) (n : ℕ) (statement : Statement) (chain : Chain) (made : KeyEntry) → chain ≡ stated_chain log statement
    → key_of (entries_of chain.entries) n ≡ Some made → IfStatement chain.statement (IsCurrent (entries_of chain.entries) n made)
    → (key_of (entries_of (cut_at statement.number log)) n ≡ Some made) × IsStated (entries_of (cut_at statement.number log)) n made.key statement
current_in maker log n statement chain made is named current =
    let here = subst (λ (c : Chain). IfStatement c.statement (IsCurrent (entries_of c.entries) n made)) is current in
    (subst (λ (c : Chain). key_of (entries_of c.entries) n ≡ Some made) is named, here.signed)

pub foreign_not_accepted : (maker : PublicKey) (log : List SignedEntry) (n : ℕ) (bytes : List ℕ) (statement : Statement) → IsBytes bytes → Spells statement_format bytes statement
    → IsBytes (chain_format.spelling (stated_chain log statement))
    → ((made : KeyEntry) → key_of (entries_of (cut_at statement.number log)) n ≡ Some made → IsStated (entries_of (cut_at statement.number log)) n made.key statement → ⊥)
    → StaysAccepted maker log n bytes → ⊥
foreign_not_accepted maker log n bytes statement are spelled chain_are foreign stays =
    let same : stays.statement ≡ statement = statement_clear.one_value bytes stays.statement statement are stays.spelled spelled in
    let attached : Spells chain_format stays.chain (stated_chain log statement) = subst (λ (s : Statement). Spells chain_format stays.chain (stated_chain log s)) same stays.attached in
    let it = stays.accepted in
    let one : it.chain ≡ stated_chain log statement = chain_clear.one_value stays.chain it.chain (stated_chain log statement) (subst IsBytes (sym attached.whole) chain_are) it.spelled attached in
    let current = current_in maker log n statement it.chain it.made one it.named it.current in
    foreign it.made current.0 current.1
