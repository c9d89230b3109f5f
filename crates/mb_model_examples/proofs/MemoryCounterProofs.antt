-- The counterexamples, refuted.
use Rattle.std.proofs.Common.{◌≡◌, ◌≢◌, ℕ, zero, suc, List, [], ◌∷◌, ◌++◌, length, inl, inr, Option, None, Some, true, drop, refl, sym, ap, ◌∙◌, arith, lit<, Err, ◌+◌, length-append}
use Rattle.std.specs.Prelude.{◌⊎◌, All, slice_index}
use Rattle.std.proofs.lemmas.List.Elements.{All-same, All-tail}
use Rattle.mb_model.specs.declared.event.Answered.{Answered}
use Rattle.mb_format.specs.Format.{Format, Spells}
use Rattle.mb_format.specs.Combinators.{items}
use Rattle.mb_format.specs.Reading.{IsExact, reads_whole, raw_at, number_at}
use Rattle.mb_format.proofs.Whole.{IsClearWhole-from_exact}
use Rattle.mb_model.specs.declared.event.Event.{Event}
use Rattle.mb_model.specs.declared.event.Event.TheVariants as event
use Rattle.mb_model.specs.declared.region.Region.{Region}
use Rattle.mb_model.specs.declared.reply.Reply.TheVariants as reply
use Rattle.mb_model.specs.declared.state.State.{State}
use Rattle.mb_model.specs.declared.stored.Root.{Root}
use Rattle.mb_model.specs.records.RootFormat.{root_format}
use Rattle.mb_model.specs.records.RegionFormat.{secrets_format, keys_format, region_by, region_format}
use Rattle.mb_model.specs.memories.Memory.{IsImage, IsBlank, life_byte, inactive_area_of_slot, HoldsInArea}
use Rattle.mb_model.specs.machine.Machine.{World, ratchet, Step, machine_step, lacks_memory, loses_power}
use Rattle.mb_model.specs.outside.Board.{Held}
use Rattle.mb_model.specs.memories.Meaning.{is_dead, is_live}
use Rattle.mb_model.specs.memories.Faults.{Fault, bad_length, bad_root, bad_public, bad_region_two, bad_region_three, bad_state, HasFault}
use Rattle.mb_model.specs.memories.Clean.{Clean}
use Rattle.mb_model.specs.memories.Meaning.{log_length}
use Rattle.mb_model.specs.memories.Acknowledged.{Shows, power_is_on, device_was_tampered, nothing_was_left}
use Rattle.mb_model.proofs.RecordFormatLaws.{region_exact}
use Rattle.mb_model_lemmas.proofs.LineLemmas.{cons_same, cons_none}
use Rattle.mb_model_lemmas.proofs.MeaningLemmas.{not_blank}
use Rattle.mb_model_examples.specs.MemoryCounterExamples.{AreaCounterExamples, MeaningCounterExamples, ImageCounterExamples, IsLeftOver, CleanCounterExamples, booted_and_stopped, WipingCounterExamples, AnswerCounterExamples}
use Rattle.mb_model_examples.proofs.RecordProofs.{byte_test, are_bytes, fails}
use Rattle.mb_model_examples.proofs.StepProofs.{never_unarmed}

-- bytes of which reading fails spell no value
pub spells_none : {A : Type 0} {f : Format A} → IsExact f → (bytes : List ℕ) (offset : ℕ) → byte_test bytes ≡ true → reads_whole f bytes ≡ Err offset
    → (value : A) → Spells f bytes value → ⊥
spells_none exact bytes offset small e value spelled =
    (IsClearWhole-from_exact exact).never_both bytes value offset (are_bytes bytes small) spelled (fails exact bytes offset small e)

-- ---- what a memory holds

no_root_of_none : (root : Root) → Spells root_format [] root → ⊥
unfolding root_format
no_root_of_none root spelled = absurd (omega (arith, ap length spelled.whole))

no_root_of : (root : Root) (bytes : List ℕ) → HoldsInArea (0 ∷ 0 ∷ 0 ∷ []) bytes → Spells root_format bytes root → ⊥
no_root_of root [] holds spelled = no_root_of_none root spelled
no_root_of root (byte ∷ []) holds spelled = omega (arith, ap (λ (bytes : List ℕ). slice_index bytes 1) holds.whole)
no_root_of root (byte ∷ second ∷ bytes) holds spelled =
    let after = second ∷ bytes ++ holds.rest in
    let count = length (second ∷ bytes) + 1 in
    omega (arith, ap length holds.whole, length-append (second ∷ bytes) holds.rest)

no_such_region : (version : ℕ) (region : Region) → Spells region_format (1 ∷ 0 ∷ 0 ∷ []) (version, region) → ⊥
unfolding secrets_format keys_format region_by region_format number_at raw_at items
no_such_region version region spelled = spells_none region_exact (1 ∷ 0 ∷ 0 ∷ []) 2 refl refl (version, region) spelled

abbrev is_zero : ℕ → Type 0
is_zero byte = byte ≡ 0

pub areas : AreaCounterExamples
areas = record {
  unclean = λ holds. let last = All-same is_zero (0 ∷ 5 ∷ []) holds.rest (ap (drop 3) holds.whole) holds.blank 1 0 (lit< tt) in omega (arith, last);
  shorter = λ holds. omega (arith, ap (λ (bytes : List ℕ). slice_index bytes 1) holds.whole);
  longer = λ holds. omega (arith, ap (λ (bytes : List ℕ). slice_index bytes 1) holds.whole);
  other_byte = λ holds. omega (arith, ap (λ (bytes : List ℕ). slice_index bytes 2) holds.whole);
  no_root = λ root holds. no_root_of root holds.bytes holds.holds holds.spelled;
  no_region = λ region is. elim is [
    | inl empty ↦ cons_none 1 (0 ∷ 0 ∷ []) (sym empty.0)
    | inr spelled ↦ no_such_region spelled.version region spelled.spelled
  ];
}

-- a byte of a memory that is all zero
pub no_byte : (bytes : List ℕ) (offset n : ℕ) → IsBlank bytes → slice_index bytes offset ≡ suc n → ⊥
no_byte [] zero n blank e = omega (arith, e)
no_byte [] (suc offset) n blank e = omega (arith, e)
no_byte (byte ∷ bytes) zero n blank e = omega (arith, e, blank 0 0 (omega arith))
no_byte (byte ∷ bytes) (suc offset) n blank e = no_byte bytes offset n (All-tail is_zero byte bytes blank) e

pub meanings : (flash bbram : List ℕ) → MeaningCounterExamples flash bbram
meanings flash bbram = record {
  torn = λ life state meaning. elim meaning as (λ m. ⊥) [
    | is_dead blank e ↦ no_byte bbram 0 0xA3 blank life
    | is_live contents holds index e ↦ omega (arith, life, holds.root.alive)
  ];
  blank = λ blank state stands. elim stands.meaning as (λ m. ⊥) [
    | is_dead blank' e ↦ absurd (grind (arith, e))
    | is_live contents holds index e ↦ not_blank bbram blank holds.root.alive
  ];
  alive = λ life stands. elim stands.meaning as (λ m. ⊥) [
    | is_dead blank e ↦ not_blank bbram blank life
    | is_live contents holds index e ↦ absurd (grind (arith, e))
  ];
  short = λ short state stands. omega (arith, short, stands.sized.bbram);
}

too_long : (image flash bbram : List ℕ) → IsImage image flash bbram → length image ≡ 1077249 → ⊥
too_long image flash bbram is long = omega (arith, long, ap length is.0, length-append flash bbram, is.1.flash, is.1.bbram)

long_alone : (image : List ℕ) (fault : Fault) → length image ≡ 1077249 → fault ≢ bad_length → HasFault image fault → ⊥
long_alone image bad_length long other is = other refl
long_alone image bad_root long other is = too_long image is.0 is.1 is.2 long
long_alone image bad_public long other is = too_long image is.0 is.1 is.2 long
long_alone image bad_region_two long other is = too_long image is.0 is.1 is.2 long
long_alone image bad_region_three long other is = too_long image is.0 is.1 is.2 long
long_alone image bad_state long other is = too_long image is.0 is.1 is.2 long

pub images : (image : List ℕ) → ImageCounterExamples image
images image = record {
  long = λ long state formed. too_long image formed.flash formed.bbram formed.image_is long;
  long_alone = λ long fault. long_alone image fault long;
  right = λ right fault. fault right;
}

pub clean : (bbram : List ℕ) → CleanCounterExamples bbram
clean bbram = record {
  alive = λ life is. not_blank bbram is.1 life;
  left = λ offset byte state is. no_byte (inactive_area_of_slot bbram 2) offset 6 is.other_two byte;
}

no_split : (sooner : List Answered) (one : Answered) (later : List Answered) → [] ≡ sooner ++ one ∷ later → ⊥
no_split sooner one later e = omega (arith, ap length e, length-append sooner (one ∷ later))

abbrev stopped_at : Event → Answered
stopped_at given = record { event = given; reply = reply.Stopped }

-- an event that was stopped has not wiped, unless it is a tamper
stopped_wipes_nothing : (given : Event) → given ≢ event.Tamper → (sooner : List Answered) (wiping : Answered) (later : List Answered)
    → stopped_at given ∷ [] ≡ sooner ++ wiping ∷ later → (wiping.reply ≡ reply.Booted) ⊎ (wiping.event ≡ event.Tamper) → ⊥
stopped_wipes_nothing given untampered [] wiping later e wipes =
    let same = (cons_same (stopped_at given) wiping [] later e).0 in
    elim wipes [
      | inl booted ↦ absurd (grind (arith, ap (λ (a : Answered). a.reply) same ∙ booted))
      | inr tampered ↦ untampered (ap (λ (a : Answered). a.event) same ∙ tampered)
    ]
stopped_wipes_nothing given untampered (first ∷ sooner) wiping later e wipes =
    no_split sooner wiping later (cons_same (stopped_at given) first [] (sooner ++ wiping ∷ later) e).1

later_stopped : (sooner : List Answered) (wiping : Answered) (later : List Answered) → booted_and_stopped ≡ sooner ++ wiping ∷ later
    → (wiping.reply ≡ reply.Booted) ⊎ (wiping.event ≡ event.Tamper) → All (λ a. a.reply ≢ reply.Stopped) later → ⊥
later_stopped [] wiping later e wipes unstopped =
    let rest = (cons_same (record { event = event.Boot; reply = reply.Booted }) wiping (stopped_at (event.Put 2 [] []) ∷ []) later e).1 in
    All-same (λ a. a.reply ≢ reply.Stopped) (stopped_at (event.Put 2 [] []) ∷ []) later rest unstopped 0 wiping (lit< tt) refl
later_stopped (first ∷ sooner) wiping later e wipes unstopped =
    stopped_wipes_nothing (event.Put 2 [] []) (λ tampered. absurd (grind (arith, tampered))) sooner wiping later
    (cons_same (record { event = event.Boot; reply = reply.Booted }) first (stopped_at (event.Put 2 [] []) ∷ []) (sooner ++ wiping ∷ later) e).1 wipes

pub wiping : WipingCounterExamples
wiping = record {
  nothing = λ wiping. no_split wiping.sooner wiping.wiping wiping.later wiping.split;
  stopped_later = λ wiping. later_stopped wiping.sooner wiping.wiping wiping.later wiping.split wiping.wipes wiping.unstopped;
  stopped = λ wiping. stopped_wipes_nothing event.Boot (λ e. absurd (grind (arith, e))) wiping.sooner wiping.wiping wiping.later wiping.split wiping.wipes;
}

pub not_clean : (bbram : List ℕ) (offset : ℕ) → life_byte bbram ≡ 0xA5 → IsLeftOver bbram offset → (state : Option State) → Clean bbram state → ⊥
not_clean bbram offset life byte None is = (clean bbram).alive life is
not_clean bbram offset life byte (Some state) is = (clean bbram).left offset byte state is

off_turns_off : (before after : World) → after.phase ≡ ratchet 1 → Step before event.Off reply.Off after → ⊥
off_turns_off before after on (machine_step x) = absurd (grind (arith, sym (ap (λ (world : World). world.phase) x.1) ∙ on))
off_turns_off before after on (lacks_memory p) = absurd (grind (arith, p.answered))
off_turns_off before after on (loses_power p) = absurd (grind (arith, p.answered))

dead_log : (now : Held) (last : World) (entries : ℕ) → IsBlank now.memory.bbram → Shows now last → entries ≡ log_length last.state → entries ≡ 0
dead_log now last entries blank shows e = elim shows.stands.meaning as (λ m. entries ≡ 0) [
  | is_dead blank' none ↦ e ∙ ap log_length none
  | is_live contents holds index some ↦ absurd (not_blank now.memory.bbram blank holds.root.alive)
]

pub answers : (standing now : Held) → AnswerCounterExamples standing now
answers standing now = record {
  phase = λ world is_off is_dead shows. absurd (grind (arith, sym is_dead ∙ shows.phase ∙ is_off));
  left = λ offset life byte holds. not_clean now.memory.bbram offset life byte holds.world.state holds.clean;
  dead_log = λ blank shows. omega (arith, dead_log now shows.last 5 blank shows.shown shows.entries_is);
  stop = λ given is_off untampered has. elim has as (λ h. ⊥) [
    | power_is_on on ↦ on is_off
    | device_was_tampered tampered ↦ untampered tampered
    | nothing_was_left none unstopped ↦ unstopped refl
  ];
  still_on = λ on may. off_turns_off may.before may.after (may.shown.phase ∙ on) may.step;
  changed = λ other may. other (may.untouched refl);
  unspared = λ other may. other (may.spared.unused 50 (inl (omega arith, omega arith)));
  rewritten = λ state clean other may. other (may.quiet refl state clean);
  unarmed = λ unarmed given may. never_unarmed may.before given (may.stood.armed ∙ unarmed) may.after may.step;
  unclean = λ offset on byte life may.
      not_clean now.memory.bbram offset life byte may.after.state (may.clean (power_is_on (λ is_off. absurd (grind (arith, sym on ∙ is_off)))));
}
