-- Two ends of `run` over the image of a dead device.
use Rattle.std.proofs.Common.{◌≡◌, ◌≢◌, ℕ, zero, suc, ◌<◌, ◌≤◌, Bool, true, false, if◌then◌else◌, not, ◌&&◌, List, [], ◌∷◌, ◌++◌, length, replicate, get_or, Option, None, Some, refl, sym, ◌∙◌, ap, inl, inr, arith, eq-eqb, lit≤, lit<}
use Rattle.std.specs.Prelude.{All, codes, ◌==◌}
use Rattle.std.proofs.lemmas.Bool.{and_parts}
use Rattle.std.proofs.lemmas.List.{append_cancel_left, length-replicate}
use Rattle.std.proofs.lemmas.List.Elements.{All-nil, All-cons, All-head, All-replicate}
use Rattle.std.proofs.lemmas.Option.{same_Some}
use Rattle.mb_format.specs.Format.{IsBytes}
use Rattle.mb_format.specs.Combinators.{same_bytes}
use Rattle.mb_format.proofs.Fields.{same_bytes-refl, same_bytes-true}
use Rattle.mb_format.proofs.Exact.{IsBytes-none, IsBytes-append, IsBytes-replicate}
use Rattle.mb_model.specs.declared.event.Event.{Event}
use Rattle.mb_model.specs.declared.event.Event.TheVariants as event
use Rattle.mb_model.specs.declared.event.Answered.{Answered}
use Rattle.mb_model.specs.declared.reply.Reply.{Reply}
use Rattle.mb_model.specs.declared.reply.Reply.TheVariants as reply
use Rattle.mb_model.specs.declared.reply.Refusal.TheVariants.{PoweredOff}
use Rattle.mb_model.specs.machine.Refusals.{refusal_reply}
use Rattle.mb_model.specs.outside.Board.{Memory, Held, image_of, erased_bytes, zeros, held_at_load, not_used, loaded_once_more, having_answered}
use Rattle.mb_model.specs.memories.Memory.{IsBlank}
use Rattle.mb_model.specs.memories.Acknowledged.{LeavesMemory, LeavesCleanMemory}
use Rattle.mb_model.specs.machine.Machine.{World, Step, machine_step, lacks_memory, opening_world, Run}
use Rattle.mb_model.specs.memories.Meaning.{IsWellFormed, StandsFor, is_dead}
use Rattle.mb_model.specs.memories.WrittenImage.{written_image}
use Rattle.mb_model.specs.chains.Lines.{IsLine, ReadsLines}
use Rattle.mb_model.specs.chains.Script.{IsScriptEvent, IsScript, with_before, commands_in, drawn_events, Drawn}
use Rattle.mb_model.specs.chains.Replies.{replies_text}
use Rattle.mb_model_commands.specs.Inputs.{Image}
use Rattle.mb_model_commands.specs.RunCommand.{IsServed, run}
use Rattle.mb_model_commands.specs.Outside.{Outside, read_once}
use Rattle.mb_model_commands.specs.Commands.{Ended, text_is_printed, CommandEnds, at_first}
use Rattle.mb_model_lemmas.proofs.LineLemmas.{isnt, cons_same}
use Rattle.mb_model_lemmas.proofs.WrittenImages.{written_is_well_formed, length-image}
use Rattle.mb_model_runs.proofs.SoundLemmas.{run_is_sound}
use Rattle.mb_model_runs.proofs.StatementLemmas.{statements_stay_accepted}
use Rattle.mb_model_histories.specs.PowerLaws.{HasOwnAnswer}
use Rattle.mb_model_histories.specs.KeyFileLaws.{Files}
use Rattle.mb_top_laws.specs.EndLaws.{EndsUndisturbed, dead_names, dead_files, LackingRunsDiffer, ImagesMayDiffer}
use Rattle.mb_top_laws.proofs.FreshHosts.{fresh, after_print, after_write, printed_so, written_so, has_read, none_risen}
use Rattle.mb_top_laws.proofs.AlikeSteps.{files_with}
use Rattle.mb_top_laws.proofs.AlikeRuns.{written_here}

-- ---- the image of a dead device

-- a memory whose flash is filled with one byte, and whose battery-backed memory is zero
memory_of : ℕ → Memory
memory_of byte = record { flash = replicate 1048576 byte; bbram = replicate 28672 0 }

image_is : image_of (memory_of 255) ≡ written_image None
unfolding written_image erased_bytes zeros memory_of
image_is = refl

image_bytes : IsBytes (written_image None)
unfolding written_image erased_bytes zeros
image_bytes = IsBytes-append (replicate 1048576 255) (replicate 28672 0) (IsBytes-replicate 1048576 255 (lit≤ tt)) (IsBytes-replicate 28672 0 (lit≤ tt))

image_fits : length (written_image None) ≤ 4194304
image_fits = omega (arith, length-image None tt)

formed : IsWellFormed (written_image None) None
formed = written_is_well_formed None tt tt

zero_length : length {A = ℕ} (replicate 28672 0) ≡ 28672
zero_length = length-replicate {A = ℕ} 28672 0

blank : IsBlank (replicate 28672 0)
blank = All-replicate (λ byte. byte ≡ 0) 28672 0 refl

abbrev held_of : ℕ → Held
held_of byte = held_at_load (memory_of byte)

stands : (byte : ℕ) → StandsFor (memory_of byte).flash (memory_of byte).bbram None
unfolding memory_of
stands byte = record { sized = record { flash = length-replicate {A = ℕ} 1048576 byte; bbram = zero_length }; meaning = is_dead blank refl }

-- ---- one event

abbrev dead_world : World
dead_world = opening_world None

abbrev told : Event → Reply → List Answered
told this answer = record { event = this; reply = answer } ∷ []

abbrev dead_image : Image
dead_image = record { bytes = written_image None; state = None }

-- one event that leaves a dead device dead, with a flash that is filled with one byte
record LeavesDead (this : Event) (answer : Reply) (byte : ℕ) : Type 0 where
  scripted : IsScriptEvent this
  is_byte : byte < 256
  step : Step dead_world this answer dead_world
  untouched : All LeavesMemory (told this answer) → image_of (memory_of byte) ≡ written_image None
  quiet : All LeavesCleanMemory (told this answer) → image_of (memory_of byte) ≡ written_image None

module _ (this : Event) (answer : Reply) (byte : ℕ) (leaves : LeavesDead this answer byte) where
  of_script : All (λ (a : Answered). IsScriptEvent a.event) (told this answer)
  of_script = All-cons (λ (a : Answered). IsScriptEvent a.event) (record { event = this; reply = answer }) [] leaves.scripted (All-nil (λ (a : Answered). IsScriptEvent a.event))

  served : IsServed dead_image (this ∷ []) (told this answer) (held_of byte)
  unfolding memory_of
  served =
      let steps : Run dead_world (told this answer) dead_world = (dead_world, leaves.step, refl) in
      record {
        all = refl;
        last = dead_world;
        run = steps;
        shown = record { stands = stands byte; phase = refl; armed = refl };
        bytes = record { flash = IsBytes-replicate 1048576 byte leaves.is_byte; bbram = IsBytes-replicate 28672 0 (lit≤ tt) };
        clean = λ when. (zero_length, blank);
        kept = tt;
        sound = run_is_sound dead_world (told this answer) dead_world steps tt;
        accepted = statements_stay_accepted dead_world (told this answer) dead_world steps of_script tt tt;
        untouched = leaves.untouched;
        quiet = λ clean all. leaves.quiet all;
      }

-- ---- the files

at_image : (script : List ℕ) → dead_files script (codes "image") ≡ Some (written_image None)
at_image script = ap (λ (b : Bool). if b then Some (written_image None) else elsewhere) (same_bytes-refl (codes "image"))
  where
    elsewhere : Option (List ℕ)
    elsewhere = if same_bytes (codes "image") (codes "script") then Some script else Some []

at_script : (script : List ℕ) → dead_files script (codes "script") ≡ Some script
at_script script = refl

at_noise : (script : List ℕ) → dead_files script (codes "noise") ≡ Some []
at_noise script = refl

abbrev line_test : List ℕ → Bool
line_test [] = true
line_test (byte ∷ bytes) = not (byte == 10) && line_test bytes

line_from_test : (bytes : List ℕ) → line_test bytes ≡ true → IsLine bytes
line_from_test [] is = All-nil (isnt 10)
line_from_test (byte ∷ bytes) is =
    let parts = and_parts (not (byte == 10)) (line_test bytes) is in
    let here = parts.0 in
    All-cons (isnt 10) byte bytes (λ lf. let same : (byte == 10) ≡ true = eq-eqb byte 10 lf in cc) (line_from_test bytes parts.1)

-- the files with this script, and what it says
record IsOneEvent (script : List ℕ) (this : Event) : Type 0 where
  are_bytes : IsBytes script
  short : length script ≤ 4194304
  reads : ReadsLines IsScript script (this ∷ [])
  drawn : Drawn (this ∷ []) [] (this ∷ [])

-- ---- an end

module _ (script printed : List ℕ) (this : Event) (answer : Reply) (byte : ℕ) (is : IsOneEvent script this) (leaves : LeavesDead this answer byte) where
  abbrev before : Outside
  before = fresh (dead_files script) printed

  abbrev all_read : Outside
  all_read = read_once (read_once (read_once before))

  abbrev left : Files
  left = files_with (codes "image") (image_of (memory_of byte)) (dead_files script)

  abbrev ended : Ended
  ended = record {
    before = before;
    after = after_print (printed ++ replies_text (told this answer)) (after_write left all_read);
    used = having_answered (told this answer) (loaded_once_more (written_image None) not_used);
    final = held_of byte;
    status = 0;
  }

  elsewhere : (other : List ℕ) → other ≢ codes "image" → left other ≡ dead_files script other
  elsewhere other differs = by (same_bytes other (codes "image")) refl
    where
      by : (b : Bool) → same_bytes other (codes "image") ≡ b → (if same_bytes other (codes "image") then Some (image_of (memory_of byte)) else dead_files script other) ≡ dead_files script other
      by true same = absurd (differs (same_bytes-true other (codes "image") same))
      by false same = rw same refl

  ends_so : CommandEnds (run dead_names) at_first ended
  unfolding CommandEnds run
  ends_so = inr (
    written_image None,
    has_read (codes "image") (written_image None) (dead_files script) before refl (at_image script) image_bytes image_fits,
    (
      dead_image,
      (refl, formed),
      inr (
        script,
        has_read (codes "script") script (dead_files script) (read_once before) refl (at_script script) is.are_bytes is.short,
        (
          this ∷ [],
          is.reads,
          inr (
            [],
            has_read (codes "noise") [] (dead_files script) (read_once (read_once before)) refl (at_noise script) IsBytes-none (lit≤ tt),
            (
              this ∷ [],
              is.drawn,
              inl (
                refl,
                served this answer byte leaves,
                inr (inl (
                  after_write left all_read,
                  written_so (codes "image") (image_of (memory_of byte)) (dead_files script) left all_read refl (written_here (codes "image") (image_of (memory_of byte)) (dead_files script)) elsewhere,
                  inl (text_is_printed (printed_so (replies_text (told this answer)) printed (after_write left all_read) refl) refl refl),
                )),
              ),
            ),
          ),
        ),
      ),
    ),
  )

  undisturbed : EndsUndisturbed (run dead_names) (dead_files script) printed ended
  undisturbed = record {
    ends = ends_so;
    shown = record { files_are = refl; printed_is = refl };
    faultless = record { read = none_risen; write = none_risen };
    found = λ same. omega (arith, same);
  }

own_one : (this : Event) (answer : Reply) → HasOwnAnswer (record { event = this; reply = answer }) → All HasOwnAnswer (told this answer)
own_one this answer own = All-cons HasOwnAnswer (record { event = this; reply = answer }) [] own (All-nil HasOwnAnswer)

-- ---- an event for which no memory is found

status_event : IsOneEvent (codes "status\n") event.Status
unfolding with_before commands_in drawn_events
status_event = record {
  are_bytes = are;
  short = lit≤ tt;
  reads = record {
    lines = codes "status" ∷ [];
    has = record { plain = All-cons IsLine (codes "status") [] (line_from_test (codes "status") refl) (All-nil IsLine); whole = inl refl };
    stands = record { said = (refl, tt); most = lit≤ tt };
  };
  drawn = record { enough = lit≤ tt; given = refl };
}
  where
    are : IsBytes (codes "status\n")
    are zero = lit≤ tt
    are (suc zero) = lit≤ tt
    are (suc (suc zero)) = lit≤ tt
    are (suc (suc (suc zero))) = lit≤ tt
    are (suc (suc (suc (suc zero)))) = lit≤ tt
    are (suc (suc (suc (suc (suc zero))))) = lit≤ tt
    are (suc (suc (suc (suc (suc (suc zero)))))) = lit≤ tt
    are (suc (suc (suc (suc (suc (suc (suc i))))))) = lit≤ tt

own_status : LeavesDead event.Status (refusal_reply PoweredOff) 255
own_status = record { scripted = tt; is_byte = lit≤ tt; step = machine_step refl; untouched = λ all. image_is; quiet = λ all. image_is }

lacking_status : LeavesDead event.Status reply.NoMemory 255
lacking_status = record {
  scripted = tt;
  is_byte = lit≤ tt;
  step = lacks_memory (record { answered = refl; wanted = refl; stays = refl });
  untouched = λ all. image_is;
  quiet = λ all. image_is;
}

pub lacking_runs_differ : (printed : List ℕ) → LackingRunsDiffer printed
lacking_runs_differ printed = record {
  runs = record {
    one = ended (codes "status\n") printed event.Status (refusal_reply PoweredOff) 255 status_event own_status;
    is_one = undisturbed (codes "status\n") printed event.Status (refusal_reply PoweredOff) 255 status_event own_status;
    other = ended (codes "status\n") printed event.Status reply.NoMemory 255 status_event lacking_status;
    is_other = undisturbed (codes "status\n") printed event.Status reply.NoMemory 255 status_event lacking_status;
  };
  own = own_one event.Status (refusal_reply PoweredOff) (record { found = λ is. absurd (cc); held = λ is. absurd (cc) });
  differ = λ same.
      let texts : replies_text (told event.Status (refusal_reply PoweredOff)) ≡ replies_text (told event.Status reply.NoMemory) =
      append_cancel_left printed _ _ (same_Some _ _ same) in
      omega (arith, ap (λ (t : List ℕ). get_or t 0 0) texts);
}

-- ---- an event that leaves the flash free

tamper_event : IsOneEvent (codes "tamper\n") event.Tamper
unfolding with_before commands_in drawn_events
tamper_event = record {
  are_bytes = are;
  short = lit≤ tt;
  reads = record {
    lines = codes "tamper" ∷ [];
    has = record { plain = All-cons IsLine (codes "tamper") [] (line_from_test (codes "tamper") refl) (All-nil IsLine); whole = inl refl };
    stands = record { said = (refl, tt); most = lit≤ tt };
  };
  drawn = record { enough = lit≤ tt; given = refl };
}
  where
    are : IsBytes (codes "tamper\n")
    are zero = lit≤ tt
    are (suc zero) = lit≤ tt
    are (suc (suc zero)) = lit≤ tt
    are (suc (suc (suc zero))) = lit≤ tt
    are (suc (suc (suc (suc zero)))) = lit≤ tt
    are (suc (suc (suc (suc (suc zero))))) = lit≤ tt
    are (suc (suc (suc (suc (suc (suc zero)))))) = lit≤ tt
    are (suc (suc (suc (suc (suc (suc (suc i))))))) = lit≤ tt

no_boot : event.Tamper ≡ event.Boot → ⊥
no_boot same = absurd (cc)

tamper_told : All LeavesMemory (told event.Tamper reply.Tampered) → ⊥
tamper_told all = (All-head LeavesMemory (record { event = event.Tamper; reply = reply.Tampered }) [] all).untampered refl

tamper_clean : All LeavesCleanMemory (told event.Tamper reply.Tampered) → ⊥
tamper_clean all = by (All-head LeavesCleanMemory (record { event = event.Tamper; reply = reply.Tampered }) [] all)
  where
    by : LeavesCleanMemory (record { event = event.Tamper; reply = reply.Tampered }) → ⊥
    by (inl leaves) = leaves.untampered refl
    by (inr boots) = no_boot boots

tampered : (byte : ℕ) → byte < 256 → LeavesDead event.Tamper reply.Tampered byte
tampered byte less = record {
  scripted = tt;
  is_byte = less;
  step = machine_step (refl, refl);
  untouched = λ all. absurd (tamper_told all);
  quiet = λ all. absurd (tamper_clean all);
}

own_tamper : All HasOwnAnswer (told event.Tamper reply.Tampered)
own_tamper = own_one event.Tamper reply.Tampered (record { found = λ is. absurd (cc); held = λ is. absurd (cc) })

some_files : (x y : Files) → Some x ≡ Some y → x ≡ y
some_files x y same = cc

whole_image : (byte : ℕ) → image_of (memory_of byte) ≡ replicate 1048576 byte ++ replicate 28672 0
unfolding memory_of
whole_image byte = refl

apart : (n byte other : ℕ) (rest : List ℕ) → 0 < n → byte ≢ other → replicate n byte ++ rest ≡ replicate n other ++ rest → ⊥
apart zero byte other rest some differ same = absurd (omega (arith, some))
apart (suc n) byte other rest some differ same = differ (cons_same byte other (replicate n byte ++ rest) (replicate n other ++ rest) same).0

images_apart : image_of (memory_of 255) ≡ image_of (memory_of 0) → ⊥
images_apart same = apart 1048576 255 0 (replicate 28672 0) (lit< tt) (λ equal. omega (arith, equal)) (sym (whole_image 255) ∙ same ∙ whole_image 0)

pub images_may_differ : (printed : List ℕ) → ImagesMayDiffer printed
images_may_differ printed = record {
  runs = record {
    one = ended (codes "tamper\n") printed event.Tamper reply.Tampered 255 tamper_event (tampered 255 (lit≤ tt));
    is_one = undisturbed (codes "tamper\n") printed event.Tamper reply.Tampered 255 tamper_event (tampered 255 (lit≤ tt));
    other = ended (codes "tamper\n") printed event.Tamper reply.Tampered 0 tamper_event (tampered 0 (lit≤ tt));
    is_other = undisturbed (codes "tamper\n") printed event.Tamper reply.Tampered 0 tamper_event (tampered 0 (lit≤ tt));
  };
  own = own_tamper;
  also = own_tamper;
  differ = λ same.
      let files = some_files (files_with (codes "image") (image_of (memory_of 255)) (dead_files (codes "tamper\n"))) (files_with (codes "image") (image_of (memory_of 0)) (dead_files (codes "tamper\n"))) same in
      images_apart (same_Some _ _ (sym (written_here (codes "image") (image_of (memory_of 255)) (dead_files (codes "tamper\n")))
      ∙ ap (λ (f : Files). f (codes "image")) files ∙ written_here (codes "image") (image_of (memory_of 0)) (dead_files (codes "tamper\n"))));
}
