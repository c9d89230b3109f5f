-- The counterexamples of `cutat`, refuted.
use Rattle.std.proofs.Common.{◌≡◌, ◌≢◌, ℕ, ◌≤◌, true, false, List, [], ◌∷◌, ◌++◌, length, Option, refl, sym, ap, ◌∙◌, arith, length-append}
use Rattle.std.proofs.lemmas.List.Elements.{All-head}
use Rattle.mb_model.specs.declared.event.Event.{Event}
use Rattle.mb_model.specs.declared.event.Event.TheVariants as event
use Rattle.mb_model.specs.declared.event.Tear.{Tear}
use Rattle.mb_model.specs.declared.event.Answered.{Answered}
use Rattle.mb_model.specs.declared.reply.Reply.TheVariants as reply
use Rattle.mb_model.specs.declared.state.State.{State}
use Rattle.mb_model.specs.outside.Board.{Held}
use Rattle.mb_model_commands.specs.Inputs.{Image}
use Rattle.mb_model_lemmas.proofs.LineLemmas.{cons_same}
use Rattle.mb_tools_device.specs.MachineRuns.{MachineComesTo}
use Rattle.mb_tools_device.specs.CutCommand.{CutRun, IsCutRun, IsUncutScript, LastIsStopped, IsCutServed}
use Rattle.mb_tools_device.specs.CutCounterExamples.{CutCounterExamples}
use Rattle.mb_tools_device.proofs.MachineLemmas.{IsUncut, third_same}

first_is_cut : (lines : List (List ℕ)) (count : ℕ) (tear : Tear) (rest : List Event) → IsUncutScript lines (event.Cut count tear ∷ rest) → ⊥
first_is_cut lines count tear rest is =
    let no : true ≡ false = All-head IsUncut (event.Cut count tear) rest is.uncut.can.uncut in
    absurd (let bad : true ≡ false = no in cc)

no_last : (fill_word : List ℕ) (run : CutRun) → IsCutRun fill_word [] run → ⊥
no_last fill_word run is = omega (arith, ap length is.whole, length-append run.first (run.last ∷ []))

another_last : (first : List Event) (last other : Event) → last ≢ other → other ∷ [] ≡ first ++ last ∷ [] → ⊥
another_last [] last other apart same = apart (sym (cons_same other last [] [] same).0)
another_last (e ∷ first) last other apart same = omega (arith, ap length same, length-append first (last ∷ []))

too_few : (list : List Answered) → length list ≤ 2 → LastIsStopped list → ⊥
too_few list few is = omega (arith, few, ap length is.split, length-append is.before (is.last ∷ is.boot ∷ is.off ∷ []))

another_reply : (before : List Answered) (last boot off : Answered) → last.reply ≢ reply.Stopped → LastIsStopped (before ++ last ∷ boot ∷ off ∷ []) → ⊥
another_reply before last boot off other is =
    other (ap (λ (a : Answered). a.reply) (third_same before is.before last boot off is.last is.boot is.off is.split) ∙ is.stopped)

stays : (first second : Option State) → first ≢ second → MachineComesTo first [] second → ⊥
stays first second apart comes = apart (sym (ap (λ w. w.state) comes.run) ∙ comes.state)

none_served : (image : Image) (count : ℕ) (run : CutRun) (final : Held) → IsCutServed image count run [] final → ⊥
none_served image count run final is = omega (arith, ap length is.served.all, length-append run.first (event.Cut count run.tear ∷ run.last ∷ event.Boot ∷ event.Off ∷ []))

pub no_such_cuts : CutCounterExamples
no_such_cuts = record {
  empty = λ lines is. is.uncut.some refl;
  cut = first_is_cut;
  none = no_last;
  other = λ fill_word run last apart is. another_last run.first run.last last apart is.whole;
  few = too_few;
  told = another_reply;
  moved = stays;
  unserved = none_served;
}
