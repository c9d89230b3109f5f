-- A statement that is accepted was made, if nothing was forged.
use Rattle.std.proofs.Common.{◌≡◌, ◌≢◌, ◌<◌, ◌≤◌, ℕ, ◌+◌, ◌^◌, List, [], ◌∷◌, ◌++◌, length, inl, inr, Option, None, Some, Bool, true, false, refl, sym, ap, ◌∙◌, subst, arith, length-append}
use Rattle.std.specs.Prelude.{◌⊎◌, get_or, Contains, Result, Ok, Err, not, nat_lt, ◌||◌, IsSomeAnd, IsTrue, if◌then◌else◌}
use Rattle.std.specs.Int.{w32, to_be_bytes}
use Rattle.std.proofs.lemmas.Bool.{cases_lt}
use Rattle.std.proofs.lemmas.List.{map-append}
use Rattle.std.proofs.lemmas.Option.{same_Some}
use Rattle.mb_model.specs.declared.entry.Entry.{Entry}
use Rattle.mb_model.specs.declared.entry.Chain.{Chain}
use Rattle.mb_model.specs.declared.entry.Said.{Said}
use Rattle.mb_model.specs.declared.entry.Said.TheVariants.{Message, Answer}
use Rattle.mb_model.specs.declared.entry.SignedEntry.{SignedEntry}
use Rattle.mb_model.specs.declared.entry.Statement.{Statement}
use Rattle.mb_model.specs.declared.event.Answered.{Answered}
use Rattle.mb_model.specs.declared.event.Event.{Event}
use Rattle.mb_model.specs.declared.event.Event.TheVariants as event
use Rattle.mb_model.specs.declared.key.PublicKey.{PublicKey}
use Rattle.mb_model.specs.declared.layer.Layers.{Layers}
use Rattle.mb_model.specs.declared.region.RegionKey.{RegionKey}
use Rattle.mb_model.specs.declared.reply.Refusal.{Refusal}
use Rattle.mb_model.specs.declared.reply.Reply.TheVariants as reply
use Rattle.mb_model.specs.declared.state.Report.{Report}
use Rattle.mb_model.specs.declared.state.State.{State}
use Rattle.mb_model.specs.chains.Acceptance.{KeyEntry, key_of, IfStatement, IsCurrent, Accepts, Honest}
use Rattle.mb_model.specs.owners.Layers.{is_runnable, is_upper, Runnable}
use Rattle.mb_model.specs.machine.LayerEvents.{Outcome, code_in, takes_calls, sign_event}
use Rattle.mb_model.specs.owners.Lives.{Alive, configuration}
use Rattle.mb_model.specs.owners.Log.{entries_of, last_of, number_of, layers_of, serial_of, RuledLog}
use Rattle.mb_model.specs.machine.Machine.{ratchet, World, Told, running_state_in, region_event, CallTold, Step, machine_step, lacks_memory, loses_power, Run}
use Rattle.mb_model.specs.machine.Runs.{BeginsWith}
use Rattle.mb_model.specs.machine.SignedTexts.{statement_text, call_text, said_text}
use Rattle.mb_model.specs.owners.Regions.{region_of}
use Rattle.mb_model.specs.signatures.Signing.{public_of}
use Rattle.mb_model.specs.memories.Valid.{IsValidState, Valid}
use Rattle.mb_format.specs.Combinators.{optional}
use Rattle.sha2.proofs.Facts256.{length-sha256}
use Rattle.mb_model.specs.machine.Calls.{Call}
use Rattle.mb_model.specs.records.ChainFormat.{answered_format, said_format, statement_format, chain_format}
use Rattle.mb_model_runs.specs.StatementLaws.{AsksFor, IsStatedIn}
use Rattle.mb_model_lemmas.proofs.CallLemmas.{IsRefusedCall, AnswersAt, on_layer_comes}
use Rattle.mb_model.proofs.KeyLemmas.{same_parts, word_same}
use Rattle.mb_model_lemmas.proofs.ChainLemmas.{honest_is_front}
use Rattle.mb_model_lemmas.proofs.LineLemmas.{cons_same}
use Rattle.mb_model_lemmas.proofs.LogLemmas.{number_of-le-length, length-entries_of, RuledLog-front, serial_on, layers_on}
use Rattle.mb_model_lemmas.proofs.PresentLemmas.{alive_lives_now}
use Rattle.mb_model_lemmas.proofs.ReaderLemmas.{flagged_lives, made_on}
use Rattle.mb_model_lemmas.proofs.RefusalLemmas.{awake_state}
use Rattle.mb_model_lemmas.proofs.ValidStates.{valid_is_ruled}
use Rattle.mb_model_lemmas.proofs.ValidSteps.{run_valid}
use Rattle.mb_model_lemmas.proofs.ListLemmas.{front_of}
use Rattle.mb_model_runs.proofs.BirthLemmas.{key_of-split}
use Rattle.mb_model_runs.proofs.GrowthLemmas.{logs_grow}
use Rattle.mb_model_runs.proofs.KeyLemmas.{upper_of, key_lives}
use Rattle.mb_model_histories.specs.Histories.{ComesAfter}
use Rattle.mb_model_histories.specs.AcceptanceLaws.{SignsBetween, HonestStatement, WasMade}
use Rattle.mb_model_histories.proofs.HistoryLemmas.{runs_lead}
use Rattle.mb_model_histories.proofs.StepLemmas.{awake_phase}
use Rattle.mb_model_histories.proofs.TargetLemmas.{serials_stay}

-- ---- prefixes of a log

-- of two prefixes of a log with as many changes the layers are the same
same_layers : (log a b x y : List Entry) → RuledLog log → log ≡ a ++ x → log ≡ b ++ y → a ≢ [] → b ≢ [] → number_of a ≡ number_of b → layers_of a ≡ layers_of b
same_layers log a b x y ruled is_a is_b some_a some_b same =
    elim (cases_lt (length a) (length b)) [
      | inl less ↦
          let front = front_of a b x y (sym is_a ∙ is_b) (omega (arith, less)) in
          let ruled_b : RuledLog (a ++ front.0) = subst RuledLog front.1 (RuledLog-front b y (subst RuledLog is_b ruled)) in
          sym (ap layers_of front.1 ∙ layers_on front.0 a some_a ruled_b (sym (ap number_of front.1) ∙ sym same))
      | inr more ↦
          let front = front_of b a y x (sym is_b ∙ is_a) more in
          let ruled_a : RuledLog (b ++ front.0) = subst RuledLog front.1 (RuledLog-front a x (subst RuledLog is_a ruled)) in
          ap layers_of front.1 ∙ layers_on front.0 b some_b ruled_a (sym (ap number_of front.1) ∙ same)
    ]

-- a prefix of a short log has few changes
few_changes : (log : List SignedEntry) (front rest : List Entry) → length log ≤ 128 → entries_of log ≡ front ++ rest → number_of front < 2 ^ 32
few_changes log front rest short split =
    let whole : length log ≡ length front + length rest = sym (length-entries_of log) ∙ ap length split ∙ length-append front rest in
    let few : number_of front ≤ length front = number_of-le-length front in
    omega (arith, short, whole, few)

-- ---- texts

messages_same : (s t : List ℕ) (n k m : ℕ) (x y : List ℕ) → length s ≡ length t → k < 2 ^ 32 → m < 2 ^ 32 → statement_text s n k x ≡ statement_text t n m y → (k ≡ m) × (x ≡ y)
unfolding statement_text
messages_same s t n k m x y long few_k few_m e =
    let inner = (cons_same 4 4 (s ++ to_be_bytes w32 n ++ to_be_bytes w32 k ++ x) (t ++ to_be_bytes w32 n ++ to_be_bytes w32 m ++ y) e).1 in
    let heads = same_parts (s ++ to_be_bytes w32 n ++ to_be_bytes w32 k) (t ++ to_be_bytes w32 n ++ to_be_bytes w32 m) x y (simp length-append (omega (arith, long))) inner in
    let numbers = same_parts (s ++ to_be_bytes w32 n) (t ++ to_be_bytes w32 n) (to_be_bytes w32 k) (to_be_bytes w32 m) (simp length-append (omega (arith, long))) heads.0 in
    (word_same k m few_k few_m numbers.1, heads.1)

answers_same : (s t : List ℕ) (n k m : ℕ) (h i a b : List ℕ) → length s ≡ length t → k < 2 ^ 32 → m < 2 ^ 32 → length h ≡ 32 → length i ≡ 32
    → call_text s n k h a ≡ call_text t n m i b → (k ≡ m) × (h ≡ i) × (a ≡ b)
unfolding call_text
answers_same s t n k m h i a b long few_k few_m long_h long_i e =
    let inner = (cons_same 6 6 (s ++ to_be_bytes w32 n ++ to_be_bytes w32 k ++ h ++ a) (t ++ to_be_bytes w32 n ++ to_be_bytes w32 m ++ i ++ b) e).1 in
    let answers = same_parts (s ++ to_be_bytes w32 n ++ to_be_bytes w32 k ++ h) (t ++ to_be_bytes w32 n ++ to_be_bytes w32 m ++ i) a b (simp length-append (omega (arith, long, long_h, long_i))) inner in
    let hashes = same_parts (s ++ to_be_bytes w32 n ++ to_be_bytes w32 k) (t ++ to_be_bytes w32 n ++ to_be_bytes w32 m) h i (simp length-append (omega (arith, long))) answers.0 in
    let numbers = same_parts (s ++ to_be_bytes w32 n) (t ++ to_be_bytes w32 n) (to_be_bytes w32 k) (to_be_bytes w32 m) (simp length-append (omega (arith, long))) hashes.0 in
    (word_same k m few_k few_m numbers.1, hashes.1, answers.1)

first_byte : List ℕ → ℕ
first_byte text = get_or text 0 0

-- the hash of an input has its length
IsSized : Said → Type 0
IsSized (Message message) = Unit {0}
IsSized (Answer input answer) = length input ≡ 32

texts_same : (s t : List ℕ) (n k m : ℕ) (x y : Said) → length s ≡ length t → k < 2 ^ 32 → m < 2 ^ 32 → IsSized x → IsSized y → said_text s n k x ≡ said_text t n m y → (k ≡ m) × (x ≡ y)
unfolding statement_text call_text first_byte IsSized
texts_same s t n k m (Message x) (Message y) long few_k few_m is_x is_y e =
    let same = messages_same s t n k m x y long few_k few_m e in
    (same.0, ap Message same.1)
texts_same s t n k m (Answer h a) (Answer i b) long few_k few_m is_x is_y e =
    let same = answers_same s t n k m h i a b long few_k few_m is_x is_y e in
    let hash : h ≡ i = same.1 in
    let answer : a ≡ b = same.2 in
    (same.0, cc)
texts_same s t n k m (Message x) (Answer i b) long few_k few_m is_x is_y e = absurd (omega (arith, ap first_byte e))
texts_same s t n k m (Answer h a) (Message y) long few_k few_m is_x is_y e = absurd (omega (arith, ap first_byte e))

said_sized : (said : Said) → said_format.Allowed said → IsSized said
unfolding said_format answered_format IsSized
said_sized (Message message) allowed = tt
said_sized (Answer input answer) allowed = allowed.1.0

-- what an event asks for
asked_sized : (this : Event) (layer n : ℕ) (said : Said) → AsksFor this layer n said → IsSized said
unfolding IsSized
asked_sized this layer n (Message message) asked = tt
asked_sized this layer n (Answer input answer) asked = ap length asked.2 ∙ length-sha256 asked.0

statement_sized : (statement : Statement) → statement_format.Allowed statement → IsSized statement.said
unfolding statement_format
statement_sized statement allowed = said_sized statement.said allowed.1.0

-- the statement of a chain that has a spelling
chain_sized : (chain : Chain) (statement : Statement) → chain_format.Allowed chain → chain.statement ≡ Some statement → IsSized statement.said
unfolding chain_format
chain_sized chain statement allowed stated = by chain.statement stated allowed.1.1
  where
    by : (o : Option Statement) → o ≡ Some statement → (optional statement_format).Allowed o → IsSized statement.said
    by None e may = absurd (grind (arith, e))
    by (Some other) e may = subst (λ (s : Statement). IsSized s.said) (same_Some other statement e) (statement_sized other may.1)

-- ---- the step

not_refused : (past runs taken : Bool) (n index : ℕ) (bytes : List ℕ) (one other : ℕ) (x : Outcome) (state : State)
    → (if past || not runs then (reply.Refused one, state) else if taken then (reply.Refused other, state) else x).0 ≡ reply.Signed n index bytes → (past ≡ false) × (runs ≡ true)
not_refused true runs taken n index bytes one other x state e = absurd (grind (arith, e))
not_refused false true taken n index bytes one other x state e = (refl, refl)
not_refused false false taken n index bytes one other x state e = absurd (grind (arith, e))

-- the layers up to the key's may run, and none above it is in control
record IsInControl (here : World) (layer : ℕ) (state : State) : Type 0 where
  level : ℕ
  runs : Runnable state.layers layer
  running : here.phase ≡ ratchet level
  in_control : level ≤ layer

region_in_control : (here : World) (layer n index : ℕ) (message bytes : List ℕ) (on : Result (ℕ × State) Refusal) (next : World) (state : State) → running_state_in here ≡ on → here.state ≡ Some state
    → ◌≡◌ {A = Told} (reply.Signed n index bytes, next) (region_event here layer (sign_event layer n message) on) → IsInControl here layer state
region_in_control here layer n index message bytes (Err refusal) next state is was e =
    let clash : reply.Signed n index bytes ≡ reply.Refused _ = ap (λ (t : Told). t.0) e in
    absurd (grind (arith, clash))
region_in_control here layer n index message bytes (Ok on) next state is was e =
    let parts = not_refused (nat_lt layer on.0) (is_runnable on.1.layers layer) (takes_calls (code_in on.1.codes layer)) n index bytes _ _ (sign_event layer n message on.1) on.1 (sym (ap (λ (t : Told). t.0) e)) in
    let same : on.1 ≡ state = same_Some on.1 state (sym (awake_state here.phase here.state on is) ∙ was) in
    record {
      level = on.0;
      runs = subst (λ (s : State). Runnable s.layers layer) same parts.1;
      running = awake_phase here.phase here.state on is;
      in_control = grind (arith, parts.0);
    }

signed_in_control : (here after : World) (layer n index : ℕ) (message bytes : List ℕ) (state : State) → Step here (event.Sign layer n message) (reply.Signed n index bytes) after → here.state ≡ Some state → IsInControl here layer state
signed_in_control here after layer n index message bytes state (machine_step x) was = region_in_control here layer n index message bytes (running_state_in here) after state refl was x
signed_in_control here after layer n index message bytes state (lacks_memory p) was = let clash : reply.Signed n index bytes ≡ reply.NoMemory = p.answered in absurd (grind (arith, clash))
signed_in_control here after layer n index message bytes state (loses_power p) was = let clash : reply.Signed n index bytes ≡ reply.Stopped = p.answered in absurd (grind (arith, clash))

call_in_control : (here : World) (call : Call) (n index : ℕ) (bytes : List ℕ) (on : Result (ℕ × State) Refusal) (next : World) (state : State) → running_state_in here ≡ on → here.state ≡ Some state
    → CallTold here call on (reply.Signed n index bytes) next → IsInControl here call.layer state
call_in_control here call n index bytes (Err refusal) next state is was x =
    let clash : reply.Signed n index bytes ≡ reply.Refused _ = x.0 in
    absurd (grind (arith, clash))
call_in_control here call n index bytes (Ok on) next state is was (outcome, at, told, follows) = by (on_layer_comes on.0 call on.1 outcome at)
  where
    by : AnswersAt on.0 call on.1 outcome ⊎ IsRefusedCall on.1 outcome → IsInControl here call.layer state
    by (inl answers) = record {
      level = on.0;
      runs = subst (λ (s : State). Runnable s.layers call.layer) (same_Some on.1 state (sym (awake_state here.phase here.state on is) ∙ was)) answers.runs;
      running = awake_phase here.phase here.state on is;
      in_control = grind (arith, answers.in_control);
    }
    by (inr refused) =
        let clash : reply.Signed n index bytes ≡ reply.Refused refused.0.0 = told ∙ refused.0.1 in
        absurd (grind (arith, clash))

called_in_control : (here after : World) (layer n index : ℕ) (input bytes : List ℕ) (state : State) → Step here (event.Call layer (Some n) input) (reply.Signed n index bytes) after → here.state ≡ Some state
    → IsInControl here layer state
called_in_control here after layer n index input bytes state (machine_step x) was = call_in_control here (record { layer = layer; key = Some n; input = input }) n index bytes (running_state_in here) after state refl was x
called_in_control here after layer n index input bytes state (lacks_memory p) was = let clash : reply.Signed n index bytes ≡ reply.NoMemory = p.answered in absurd (grind (arith, clash))
called_in_control here after layer n index input bytes state (loses_power p) was = let clash : reply.Signed n index bytes ≡ reply.Stopped = p.answered in absurd (grind (arith, clash))

-- of an event that asks for it, whichever it is
asked_in_control : (here after : World) (this : Event) (layer n index : ℕ) (said : Said) (bytes : List ℕ) (state : State) → AsksFor this layer n said
    → Step here this (reply.Signed n index bytes) after → here.state ≡ Some state → IsInControl here layer state
asked_in_control here after this layer n index (Message message) bytes state asked step was =
    signed_in_control here after layer n index message bytes state (subst (λ (e : Event). Step here e (reply.Signed n index bytes) after) asked step) was
asked_in_control here after this layer n index (Answer hash answer) bytes state asked step was =
    called_in_control here after layer n index asked.0 bytes state (subst (λ (e : Event). Step here e (reply.Signed n index bytes) after) asked.1 step) was

-- the key that signed stands in the log as one of the event's layer
record IsOfLayer (state : State) (layer n : ℕ) : Type 0 where
  made : KeyEntry
  named : key_of (entries_of state.log) n ≡ Some made
  layer_is : made.layer ≡ layer
  upper : IsTrue (is_upper layer)

key_of_layer : (state : State) (layer n : ℕ) (key : RegionKey) → IsValidState state → Contains (region_of state layer).keys key → key.number ≡ n → IsOfLayer state layer n
key_of_layer state layer n key valid within number_is =
    let alive = key_lives state layer key valid within in
    let made : KeyEntry = record { layer = layer; kind = key.kind; key = public_of key.seed } in
    let named : key_of (entries_of state.log) key.number ≡ Some made =
    ap (λ es. key_of es key.number) alive.split
    ∙ key_of-split alive.before alive.position alive.number key.number layer key.kind (public_of key.seed) alive.later (subst RuledLog alive.split (valid_is_ruled state valid)) in
    record {
      made = made;
      named = subst (λ m. key_of (entries_of state.log) m ≡ Some made) number_is named;
      layer_is = refl;
      upper = upper_of state layer key within;
    }

-- ---- the chain

some_and : {X : Type 0} (o : Option X) (P : X → Type 0) → IsSomeAnd o P → (x : X) × (o ≡ Some x) × P x
some_and None P is = absurd is
some_and (Some x) P is = (x, refl, is)

-- a log in which a key is made has an entry
made_some : (log : List Entry) (n : ℕ) (made : KeyEntry) → key_of log n ≡ Some made → log ≢ []
unfolding key_of last_of
made_some log n made is none =
    let no : None ≡ Some made = ap (λ es. key_of es n) (sym none) ∙ is in
    absurd (grind (arith, no))

pub current_in : (entries : List Entry) (n : ℕ) (made : KeyEntry) (o : Option Statement) (statement : Statement) → o ≡ Some statement → IfStatement o (IsCurrent entries n made) → IsCurrent entries n made statement
current_in entries n made o statement is current = subst (λ (p : Option Statement). IfStatement p (IsCurrent entries n made)) is current

pub accepted_statements_were_made : (maker : PublicKey) (bytes : List ℕ) (key_number : ℕ) (report : Report) (accepts : Accepts maker bytes key_number report) (statement : Statement) (first last : World) (live : State)
    → Valid first.state → ComesAfter last first → last.state ≡ Some live → length live.log ≤ 128
    → Honest accepts.chain.entries maker (entries_of live.log) → accepts.chain.statement ≡ Some statement → HonestStatement first last (entries_of live.log) key_number statement
    → WasMade first last key_number report statement × (serial_of (entries_of accepts.chain.entries) ≡ Some live.serial)
accepted_statements_were_made maker bytes n report accepts statement first last live valid comes is short honest stated not_forged =
    let log : List Entry = entries_of live.log in
    let chain : List Entry = entries_of accepts.chain.entries in
    let made : KeyEntry = accepts.made in
    -- the device
    let whole = runs_lead first last live comes is in
    let live_valid : IsValidState live = subst Valid is (run_valid first whole.0 last valid whole.1) in
    let ruled : RuledLog log = valid_is_ruled live live_valid in
    -- the chain is a prefix of its log
    let front = honest_is_front maker accepts.chain.entries live.log accepts.good live_valid.log honest in
    let chain_ruled : RuledLog (chain ++ front.0) = subst RuledLog front.1 ruled in
    let current : IsCurrent chain n made statement = current_in chain n made accepts.chain.statement statement stated accepts.current in
    let serial = some_and (serial_of chain) _ current.signed in
    let some_chain : chain ≢ [] = made_some chain n made accepts.named in
    let named_in_log : key_of log n ≡ Some made = ap (λ es. key_of es n) front.1 ∙ made_on front.0 chain n made chain_ruled accepts.named in
    let serial_in_log : serial_of log ≡ Some serial.0 = ap serial_of front.1 ∙ serial_on front.0 chain serial.0 some_chain chain_ruled serial.1 in
    let serial_is : serial.0 ≡ live.serial = same_Some serial.0 live.serial (sym serial_in_log ∙ live_valid.serial) in
    -- the moment
    let at : SignsBetween first last n (said_text serial.0 n statement.number statement.said) = not_forged made serial.0 named_in_log serial_in_log serial.2 in
    let this : Answered = record { event = at.event; reply = reply.Signed n at.index at.bytes } in
    let sooner = runs_lead first at.here at.state at.before at.is in
    let state_valid : IsValidState at.state = subst Valid at.is (run_valid first sooner.0 at.here valid sooner.1) in
    let later = runs_lead at.after last live at.later is in
    let onwards : Run at.here (this ∷ later.0) last = (at.after, at.step, later.1) in
    let grown = logs_grow at.here (this ∷ later.0) last onwards live is in
    let one : grown.0 ≡ at.state = same_Some grown.0 at.state (sym grown.1 ∙ at.is) in
    let begins : BeginsWith live.log at.state.log = subst (λ (s : State). BeginsWith live.log s.log) one grown.2 in
    let split : log ≡ entries_of at.state.log ++ entries_of begins.0 = ap entries_of begins.1 ∙ map-append (λ (s : SignedEntry). s.entry) at.state.log begins.0 in
    -- the text
    let same_serial : live.serial ≡ at.state.serial = serials_stay at.here last (this ∷ later.0) at.state live onwards at.is is in
    let chain_few : statement.number < 2 ^ 32 = subst (λ m. m < 2 ^ 32) (sym current.number) (few_changes live.log chain front.0 short front.1) in
    let texts = texts_same serial.0 at.state.serial n statement.number (number_of (entries_of at.state.log)) statement.said at.said (ap length (serial_is ∙ same_serial))
    chain_few (few_changes live.log (entries_of at.state.log) (entries_of begins.0) short split)
    (chain_sized accepts.chain statement accepts.spelled.allowed stated) (asked_sized at.event at.layer n at.said at.asked) at.text_is in
    -- the key and its layer
    let own : IsOfLayer at.state at.layer n = key_of_layer at.state at.layer n at.stated.key state_valid at.stated.within at.stated.number_is in
    let own_in_log : key_of log n ≡ Some own.made = ap (λ es. key_of es n) split ∙ made_on (entries_of begins.0) (entries_of at.state.log) n own.made (subst RuledLog split ruled) own.named in
    let one_key : own.made ≡ made = same_Some own.made made (sym own_in_log ∙ named_in_log) in
    let reported : made.layer ≡ report.layer = ap (λ (r : Report). r.layer) (sym accepts.report_is) in
    let layer : at.layer ≡ report.layer = sym own.layer_is ∙ ap (λ (k : KeyEntry). k.layer) one_key ∙ reported in
    let upper : IsTrue (is_upper made.layer) = subst (λ m. IsTrue (is_upper m)) (layer ∙ sym reported) own.upper in
    -- the configuration
    let alive : Alive chain n made.layer made.kind made.key = flagged_lives chain n made (RuledLog-front chain front.0 chain_ruled) accepts.named current.alive in
    let now = alive_lives_now chain n made.layer made.kind made.key (RuledLog-front chain front.0 chain_ruled) upper alive in
    let some_state : entries_of at.state.log ≢ [] = made_some (entries_of at.state.log) n own.made own.named in
    let layers : layers_of chain ≡ at.state.layers =
    same_layers log chain (entries_of at.state.log) front.0 (entries_of begins.0) ruled front.1 split some_chain some_state (sym current.number ∙ texts.0) ∙ sym state_valid.layers in
    let control : IsInControl at.here at.layer at.state = asked_in_control at.here at.after at.event at.layer n at.index at.said at.bytes at.state at.asked at.step at.is in (
      record {
        here = at.here;
        after = at.after;
        state = at.state;
        event = at.event;
        index = at.index;
        bytes = at.bytes;
        before = at.before;
        asked = subst (λ l. AsksFor at.event l n statement.said) layer (subst (AsksFor at.event at.layer n) (sym texts.1) at.asked);
        step = at.step;
        later = at.later;
        is = at.is;
        stated = subst (λ l. IsStatedIn at.state l statement.said n at.index at.bytes) layer
            (subst (λ (x : Said). IsStatedIn at.state at.layer x n at.index at.bytes) (sym texts.1) at.stated);
        numbered = sym texts.0;
        sooner = now.0;
        number = now.1;
        lives = ap (λ (r : Report). r.lives) accepts.report_is ∙ now.2
            ∙ ap (λ (l : Layers). now.0 ++ configuration made.layer now.1 l ∷ []) layers
            ∙ ap (λ m. now.0 ++ configuration m now.1 at.state.layers ∷ []) reported;
        runs = subst (λ m. Runnable at.state.layers m) layer control.runs;
        named = state_valid.codes;
        level = control.level;
        running = control.running;
        in_control = subst (λ m. control.level ≤ m) layer control.in_control;
      },
      serial.1 ∙ ap Some serial_is,
    )
