use Rattle.std.proofs.Common.{◌≡◌, ℕ, Bool, false, List, ◌∷◌, ◌++◌, Some, None, refl, ap, sym, ◌∙◌}
use Rattle.std.proofs.lemmas.List.{drop_at}
use Rattle.std.proofs.lemmas.List.Elements.{All-drop}
use Rattle.mb_model.specs.declared.event.Event.{Event}
use Rattle.mb_model.specs.declared.event.Event.TheVariants as event
use Rattle.mb_model.specs.declared.reply.Reply.TheVariants as reply
use Rattle.mb_model.specs.memories.Memory.{IsBlank}
use Rattle.mb_model.specs.outside.Board.{Memory, Held, Ledger, IsLoaded, held_at_load, phase_at, power_after}
use Rattle.mb_model.specs.outside.Board.{memory_after}
use Rattle.mb_model.specs.memories.Meaning.{is_dead}
use Rattle.mb_model.specs.machine.Machine.{World, off, machine_step}
use Rattle.mb_model.specs.memories.Acknowledged.{Shows, MayAnswer}
use Rattle.mb_board.specs.Cuts.{Armed, cut_after, is_armed}
use Rattle.mb_test_rules.proofs.tests.boards.answer_off.Goals as goal

-- a dead device whose power is off
dead : World
dead = record { state = None; phase = off; armed = false }

shows_dead : (memory : Memory) → IsLoaded memory → IsBlank memory.bbram → Shows (held_at_load memory) dead
unfolding dead
shows_dead memory loaded blank = record {
  stands = record { sized = loaded; meaning = is_dead blank refl };
  phase = refl;
  armed = refl;
}

may_answer : (loaded memory : Memory) (standing : Held) (power : Bool) (level : ℕ) (armed : Bool) (given : Event) → IsLoaded loaded → IsBlank loaded.bbram → standing ≡ held_at_load loaded → memory ≡ loaded → power ≡ false → armed ≡ false → given ≡ event.Off → MayAnswer standing (record { memory = memory; phase = phase_at power level; armed = armed }) given reply.Off
unfolding dead
may_answer loaded memory standing power level armed given sized blank stood same unpowered unarmed is =
    rw (stood, same, unpowered, unarmed, is) record {
      before = dead;
      after = dead;
      stood = shows_dead loaded sized blank;
      shown = shows_dead loaded sized blank;
      step = machine_step (refl, refl);
      valid = tt;
      clean = λ has_to_be. (sized.bbram, blank);
      kept = tt;
      untouched = λ quiet. refl;
      quiet = λ boot state clean. refl;
      spared = record { log = record { kept = λ root header is held position below. refl }; unused = λ n is. refl };
    }

first_is : (x y : Event) (xs ys : List Event) → x ∷ xs ≡ y ∷ ys → x ≡ y
first_is x y xs ys same = cc

pub answer-requires-clause-step : goal.answer-requires-clause-step
answer-requires-clause-step c =
    let board = c.args.board.now in
    let event = first_is _ _ _ _ (sym c.in-Some.ensures.some.1 ∙ ap (λ (ledger : Ledger). ledger.waiting) c.requires.waits) in
    may_answer board.memory _ _ _ _ _ _ c.requires.loaded
    (rw (drop_at board.memory.flash board.memory.bbram 1048576 c.requires.loaded.flash) at (All-drop (λ byte. byte ≡ 0) 1048576 (board.memory.flash ++ board.memory.bbram) c.requires.dead))
    (ap (λ (ledger : Ledger). ledger.standing) c.in-Some.ensures.some.2 ∙ ap (λ (ledger : Ledger). ledger.standing) c.requires.waits)
    (c.in-Some.ensures.memory ∙ ap (λ (given : Event). memory_after (Some given) board.memory) event)
    (c.in-Some.ensures.power ∙ ap (λ (given : Event). power_after (Some given) board.power) event)
    (ap (λ (fuse : Armed). is_armed fuse.cut) c.in-Some.ensures.fuse
    ∙ (ap (λ (given : Event). is_armed (cut_after (Some given) board.fuse.cut)) event ∙ c.requires.unarmed))
    event
