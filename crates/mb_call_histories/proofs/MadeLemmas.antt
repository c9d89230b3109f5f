-- A call's statement that is accepted was made by the code that the chain lists, if nothing was forged.
use Rattle.std.proofs.Common.{◌≡◌, ℕ, ◌%◌, List, ◌∷◌, ◌++◌, length, Option, None, Some, refl, sym, ap, ◌∙◌, subst, arith, length-append}
use Rattle.std.specs.Prelude.{IsTrue}
use Rattle.std.specs.Int.{w8, w32, to_be_bytes}
use Rattle.std.proofs.lemmas.List.{append_cancel_left}
use Rattle.std.proofs.lemmas.Option.{same_Some}
use Rattle.sha2.specs.Sha256.{sha256}
use Rattle.mb_format.specs.Combinators.{number_bytes}
use Rattle.mb_model.specs.declared.entry.Said.{Said}
use Rattle.mb_model.specs.declared.entry.Said.TheVariants.{Answer}
use Rattle.mb_model.specs.declared.event.Event.{Event}
use Rattle.mb_model.specs.declared.event.Event.TheVariants as event
use Rattle.mb_model.specs.declared.layer.CodeName.{CodeName}
use Rattle.mb_model.specs.declared.layer.Layers.{Layers}
use Rattle.mb_model.specs.declared.reply.Reply.TheVariants as reply
use Rattle.mb_model.specs.declared.state.Codes.{Codes}
use Rattle.mb_model.specs.declared.state.State.{State}
use Rattle.mb_model.specs.machine.LayerEvents.{code_in}
use Rattle.mb_model.specs.machine.Machine.{Step}
use Rattle.mb_model.specs.machine.SignedTexts.{call_text}
use Rattle.mb_model.specs.memories.Valid.{IsNamed, AreNamed}
use Rattle.mb_model.specs.owners.Layers.{layer_of, is_upper}
use Rattle.mb_model.specs.owners.Log.{entries_of, number_of}
use Rattle.mb_model.specs.records.ChainFormat.{answered_format, said_format, statement_format}
use Rattle.mb_model.proofs.KeyLemmas.{same_parts}
use Rattle.mb_model_lemmas.proofs.LineLemmas.{cons_same}
use Rattle.mb_model_lemmas.proofs.RegionLemmas.{at_upper}
use Rattle.mb_model_lemmas.proofs.SignatureLemmas.{length-signature_of}
use Rattle.mb_model_runs.specs.StatementLaws.{statement_saying, AsksFor, IsStatedIn}
use Rattle.mb_model_runs.proofs.KeyLemmas.{upper_of}
use Rattle.mb_model_histories.specs.AcceptanceLaws.{WasMade}
use Rattle.mb_model_histories.proofs.AcceptanceLemmas.{accepted_statements_were_made}
use Rattle.mb_call_histories.specs.AcceptedCallLaws.{RunsWith, AcceptedCallsWereMade, InputsOfOneHashHaveOneText}
use Rattle.mb_call_histories.proofs.AnswerLemmas.{IsSignedCall, step_signed}

-- ---- one answer in a statement

-- statements of one input that are spelled alike have one answer, if their signatures have one length
same_answer : (m : ℕ) (hash a b s t : List ℕ) → length s ≡ length t
    → statement_format.spelling (record { number = m; said = Answer hash a; signature = s }) ≡ statement_format.spelling (record { number = m; said = Answer hash b; signature = t }) → a ≡ b
unfolding statement_format said_format answered_format number_bytes
same_answer m hash a b s t long e =
    let one : List ℕ = 129 ∷ (hash ++ (to_be_bytes w8 (length a) ++ a)) in
    let other : List ℕ = 129 ∷ (hash ++ (to_be_bytes w8 (length b) ++ b)) in
    let rest : one ++ s ≡ other ++ t = append_cancel_left (to_be_bytes w32 m) (one ++ s) (other ++ t) e in
    let sized : length one ≡ length other = omega (arith, long, ap length rest, length-append one s, length-append other t) in
    let fronts : one ≡ other = (same_parts one other s t sized rest).0 in
    let hashed = (cons_same 129 129 (hash ++ (to_be_bytes w8 (length a) ++ a)) (hash ++ (to_be_bytes w8 (length b) ++ b)) fronts).1 in
    let answers = append_cancel_left hash (to_be_bytes w8 (length a) ++ a) (to_be_bytes w8 (length b) ++ b) hashed in
    (cons_same (length a % 256) (length b % 256) a b answers).1

-- the answer of the code is the one that was stated
stated_answer : (state : State) (layer n index : ℕ) (bytes hash answer said signature : List ℕ) → IsStatedIn state layer (Answer hash answer) n index bytes → length signature ≡ 2348
    → bytes ≡ statement_format.spelling (record { number = number_of (entries_of state.log); said = Answer hash said; signature = signature }) → said ≡ answer
unfolding statement_saying
stated_answer state layer n index bytes hash answer said signature stated long is =
    same_answer (number_of (entries_of state.log)) hash said answer signature _ (long ∙ sym (length-signature_of stated.key.seed stated.key.uses _)) (sym is ∙ stated.statement_is)

-- ---- the code

-- the code of layer 2 or 3 has the name that the layer lists, and its hash
one_listed : (name : Option CodeName) (stored : Option (List ℕ)) (code : List ℕ) → IsNamed name stored → stored ≡ Some code → (own : CodeName) × (name ≡ Some own) × (own.hash ≡ sha256 code)
one_listed None None code named is = absurd (grind (arith, is))
one_listed None (Some other) code named is = absurd named
one_listed (Some name) None code named is = absurd named
one_listed (Some name) (Some other) code named is = (name, refl, named ∙ ap sha256 (same_Some other code is))

code_listed : (layers : Layers) (codes : Codes) (layer : ℕ) (code : List ℕ) → IsTrue (is_upper layer) → AreNamed layers codes → code_in codes layer ≡ Some code
    → (name : CodeName) × ((layer_of layers layer).code ≡ Some name) × (name.hash ≡ sha256 code)
code_listed layers codes layer code upper named =
    at_upper (λ l. code_in codes l ≡ Some code → (name : CodeName) × ((layer_of layers l).code ≡ Some name) × (name.hash ≡ sha256 code)) layer upper
    (λ is. one_listed layers.two.code codes.two code named.two is)
    (λ is. one_listed layers.three.code codes.three code named.three is)

-- ---- the law

pub accepted_calls_were_made : AcceptedCallsWereMade
accepted_calls_were_made maker bytes n report accepts statement hash answer first last live valid comes is short honest stated said not_forged =
    let whole = accepted_statements_were_made maker bytes n report accepts statement first last live valid comes is short honest stated not_forged in
    let made : WasMade first last n report statement = whole.0 in
    let asked : AsksFor made.event report.layer n (Answer hash answer) = subst (AsksFor made.event report.layer n) said made.asked in
    let input : List ℕ = asked.0 in
    let step : Step made.here (event.Call report.layer (Some n) input) (reply.Signed n made.index made.bytes) made.after =
    subst (λ (e : Event). Step made.here e (reply.Signed n made.index made.bytes) made.after) asked.1 made.step in
    let signed : IsSignedCall (record { layer = report.layer; key = Some n; input = input }) made.bytes made.state =
    step_signed made.here made.after report.layer (Some n) input n made.index made.bytes made.state made.is step in
    let states : IsStatedIn made.state report.layer (Answer (sha256 input) answer) n made.index made.bytes =
    subst (λ (h : List ℕ). IsStatedIn made.state report.layer (Answer h answer) n made.index made.bytes) asked.2
    (subst (λ (x : Said). IsStatedIn made.state report.layer x n made.index made.bytes) said made.stated) in
    let same : signed.answer ≡ answer = stated_answer made.state report.layer n made.index made.bytes (sha256 input) answer signed.answer signed.signature states signed.long signed.bytes_are in
    let ran : RunsWith made.state report.layer input answer = subst (RunsWith made.state report.layer input) same signed.ran in
    let upper : IsTrue (is_upper report.layer) = upper_of made.state report.layer states.key states.within in
    let listed = code_listed made.state.layers made.state.codes report.layer ran.code upper made.named ran.stored in (
      record {
        made = made;
        input = input;
        asked = asked.1;
        hashed = asked.2;
        ran = ran;
        name = listed.0;
        listed = listed.1;
        code_is = listed.2;
      },
      whole.1,
    )

pub inputs_of_one_hash : InputsOfOneHashHaveOneText
inputs_of_one_hash one other serial answer key_number number same =
    ap (λ (hash : List ℕ). call_text serial key_number number hash answer) same
