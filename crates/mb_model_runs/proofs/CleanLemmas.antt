-- What a board holds at its answers is clean, once the device has booted or was tampered with and power has held since.
use Rattle.std.proofs.Common.{◌≡◌, List, [], ◌∷◌, ◌++◌, inl, inr, sym, ap, subst, ◌∙◌}
use Rattle.std.specs.Prelude.{◌⊎◌, ◌≢◌, All}
use Rattle.std.proofs.lemmas.List.Elements.{All-head, All-tail}
use Rattle.mb_model.specs.declared.event.Answered.{Answered}
use Rattle.mb_model.specs.declared.event.Event.TheVariants.{Tamper}
use Rattle.mb_model.specs.declared.reply.Reply.TheVariants.{Booted, Stopped}
use Rattle.mb_model.specs.memories.Acknowledged.{HoldsNoOther, power_is_on, device_was_tampered, nothing_was_left, AreWiping, MayAnswer}
use Rattle.mb_model.specs.outside.Board.{Held}
use Rattle.mb_model.specs.machine.Machine.{may_be_cut}
use Rattle.mb_model_lemmas.proofs.RefusalLemmas.{written_is_on}
use Rattle.mb_model_runs.specs.RunLaws.{MayAnswerAll}

-- an answer at which the memory is wiped
wiped : (standing now : Held) (this : Answered) → MayAnswer standing now this.event this.reply → (this.reply ≡ Booted) ⊎ (this.event ≡ Tamper) → HoldsNoOther now
wiped standing now this may (inl booted) =
    let on = written_is_on may.before this.event this.reply may.after may.step (ap may_be_cut booted) in
    record { world = may.after; shown = may.shown; clean = may.clean (power_is_on (λ dark. on (may.shown.phase ∙ dark))) }
wiped standing now this may (inr tampered) = record { world = may.after; shown = may.shown; clean = may.clean (device_was_tampered tampered) }

-- answers after which power has held
stays : (standing : Held) (answered : List Answered) (now : Held) → MayAnswerAll standing answered now → All (λ a. a.reply ≢ Stopped) answered → HoldsNoOther standing → HoldsNoOther now
stays standing [] now same held clean = subst HoldsNoOther (sym same) clean
stays standing (this ∷ rest) now (mid, may, more) held clean =
    let P : Answered → Type 0 = λ a. a.reply ≢ Stopped in
    stays mid rest now more (All-tail P this rest held)
    (record { world = may.after; shown = may.shown; clean = may.clean (nothing_was_left clean (All-head P this rest held)) })

wiped_and_stays : (standing : Held) (sooner : List Answered) (this : Answered) (later : List Answered) (now : Held) → MayAnswerAll standing (sooner ++ this ∷ later) now
    → (this.reply ≡ Booted) ⊎ (this.event ≡ Tamper) → All (λ a. a.reply ≢ Stopped) later → HoldsNoOther now
wiped_and_stays standing [] this later now (mid, may, more) wipes held = stays mid later now more held (wiped standing mid this may wipes)
wiped_and_stays standing (one ∷ sooner) this later now (mid, may, more) wipes held = wiped_and_stays mid sooner this later now more wipes held

pub answers_leave_clean : (standing : Held) (answered : List Answered) (now : Held) → MayAnswerAll standing answered now → AreWiping answered → HoldsNoOther now
answers_leave_clean standing answered now all wiping =
    wiped_and_stays standing wiping.sooner wiping.wiping wiping.later now (subst (λ (a : List Answered). MayAnswerAll standing a now) wiping.split all) wiping.wipes wiping.unstopped
