-- Where no secret lies in the memory but those of the state, after an event and after several.
use Rattle.std.proofs.Common.{◌≡◌, ℕ, Bool, true, false, List, [], ◌∷◌, ◌++◌, Option, None, Some, length, inl, inr, refl, sym, ap, subst, ◌∙◌, append_assoc, length-append, arith}
use Rattle.std.specs.Prelude.{◌⊎◌, ◌≢◌, All, IsTrue}
use Rattle.std.proofs.lemmas.List.{append_cancel_left}
use Rattle.std.proofs.lemmas.List.Elements.{All-pop}
use Rattle.mb_model.specs.declared.event.Answered.{Answered}
use Rattle.mb_model.specs.declared.event.Event.{Event}
use Rattle.mb_model.specs.declared.event.Event.TheVariants as event
use Rattle.mb_model.specs.declared.reply.Reply.{Reply}
use Rattle.mb_model.specs.declared.reply.Reply.TheVariants as reply
use Rattle.mb_model.specs.declared.state.State.{State}
use Rattle.mb_model.specs.memories.Spared.{SparesSectors}
use Rattle.mb_model.specs.memories.Acknowledged.{LeavesMemory, LeavesCleanMemory, HoldsNoOther, HasToBeClean, power_is_on, device_was_tampered, nothing_was_left, AreWiping}
use Rattle.mb_model.specs.outside.Board.{Memory, Held, AreBytes, memory_after}
use Rattle.mb_model.specs.memories.Clean.{Clean}
use Rattle.mb_model.specs.machine.Machine.{World, Step, machine_step, lacks_memory, loses_power, may_be_cut}
use Rattle.mb_model.specs.machine.Machine.{may_have_written}
use Rattle.mb_model.specs.memories.Meaning.{HasMeaning, is_dead, is_live, StandsFor}
use Rattle.mb_model_lemmas.proofs.LineLemmas.{cons_same}
use Rattle.mb_model_lemmas.proofs.MeaningLemmas.{one_meaning}
use Rattle.mb_model_lemmas.proofs.RefusalLemmas.{written_is_on, tampered_is_dead}
use Rattle.mb_model_lemmas.proofs.Splits.{two_splits}
use Rattle.mb_device_orders.proofs.Spared.{same_flash_spared}
use Rattle.mb_device.specs.declared.device.Device.{Device}
use Rattle.mb_device.specs.Sound.{Steps}

-- ---- one event

-- a memory that stands for a dead device is clean
dead_is_clean : (flash bbram : List ℕ) → StandsFor flash bbram None → Clean bbram None
dead_is_clean flash bbram stands = by stands.meaning
  where
    by : HasMeaning flash bbram None → Clean bbram None
    by (is_dead blank same) = (stands.sized.bbram, blank)
    by (is_live contents holds index same) = absurd (grind (arith, same))

-- all events but a tamper are handed out with the memory as it is
zeroed_or_left : (e : Event) → (e ≡ event.Tamper) ⊎ ((memory : Memory) → memory_after (Some e) memory ≡ memory)
zeroed_or_left event.Tamper = inl refl
zeroed_or_left event.Boot = inr (λ memory. refl)
zeroed_or_left event.Off = inr (λ memory. refl)
zeroed_or_left event.Status = inr (λ memory. refl)
zeroed_or_left event.Go = inr (λ memory. refl)
zeroed_or_left (event.Cut count tear) = inr (λ memory. refl)
zeroed_or_left (event.Order text draw) = inr (λ memory. refl)
zeroed_or_left (event.Put L name value) = inr (λ memory. refl)
zeroed_or_left (event.Get L name) = inr (λ memory. refl)
zeroed_or_left (event.Drop L name) = inr (λ memory. refl)
zeroed_or_left (event.Sign L key message) = inr (λ memory. refl)
zeroed_or_left (event.Call L key input) = inr (λ memory. refl)

written_or_stopped : (answer : Reply) → may_have_written answer ≡ true → answer ≢ reply.Stopped → may_be_cut answer ≡ true
written_or_stopped reply.Stopped wrote unstopped = absurd (unstopped refl)
written_or_stopped reply.Booted wrote unstopped = refl
written_or_stopped (reply.Done number size) wrote unstopped = refl
written_or_stopped reply.Kept wrote unstopped = refl
written_or_stopped reply.Dropped wrote unstopped = refl
written_or_stopped (reply.Signed key index statement) wrote unstopped = refl
written_or_stopped (reply.Called value) wrote unstopped = refl
written_or_stopped reply.Off wrote unstopped = wrote
written_or_stopped reply.Tampered wrote unstopped = wrote
written_or_stopped reply.Armed wrote unstopped = wrote
written_or_stopped (reply.At r) wrote unstopped = wrote
written_or_stopped (reply.Value bytes) wrote unstopped = wrote
written_or_stopped reply.Absent wrote unstopped = wrote
written_or_stopped (reply.Status serial number size one two three) wrote unstopped = wrote
written_or_stopped (reply.Refused refusal) wrote unstopped = wrote
written_or_stopped reply.NoMemory wrote unstopped = wrote

-- what was handed out are bytes; they stay where nothing was written, and so do the sectors that no event changes
pub record IsFramed (held : Held) (e : Event) (answer : Reply) (stepped : Held) : Type 0 where
  pub bytes : AreBytes (memory_after (Some e) held.memory)
  pub untold : may_have_written answer ≡ false → stepped.memory ≡ memory_after (Some e) held.memory
  pub spared : SparesSectors (memory_after (Some e) held.memory) stepped.memory
  pub quiet : e ≡ event.Boot → (state : State) → Clean held.memory.bbram (Some state) → stepped.memory ≡ held.memory

tampered_told : (world : World) (answer : Reply) (next : World) → Step world event.Tamper answer next → answer ≡ reply.Tampered
tampered_told world answer next (machine_step x) = x.0
tampered_told world answer next (lacks_memory p) = absurd (grind (arith, p.wanted))
tampered_told world answer next (loses_power p) =
    let clash : IsTrue (may_be_cut reply.Tampered) = subst (λ (r : Reply). IsTrue (may_be_cut r)) p.machine.0 p.writes in
    absurd (grind (arith, clash))

-- handing out an event leaves the flash, so what is spared after it is spared in all
pub spared_in_all : (world : World) (e : Event) (answer : Reply) (device : Device) (held stepped : Held) (done : Steps world e answer device stepped) → IsFramed held e answer stepped
    → SparesSectors held.memory stepped.memory
spared_in_all world e answer device held stepped done framed = by (zeroed_or_left e)
  where
    by : (e ≡ event.Tamper) ⊎ ((memory : Memory) → memory_after (Some e) memory ≡ memory) → SparesSectors held.memory stepped.memory
    by (inr same) = subst (λ (m : Memory). SparesSectors m stepped.memory) (same held.memory) framed.spared
    by (inl is) =
        let told : answer ≡ reply.Tampered = tampered_told world answer done.next (subst (λ (x : Event). Step world x answer done.next) is done.step) in
        let zeroed : stepped.memory ≡ memory_after (Some event.Tamper) held.memory = framed.untold (ap may_have_written told) ∙ ap (λ (x : Event). memory_after (Some x) held.memory) is in
        same_flash_spared held.memory stepped.memory (ap (λ (m : Memory). m.flash) zeroed)

-- an answer that tells of no change leaves the memory
pub left_as_it_was : (held : Held) (one : Answered) (stepped : Held) → IsFramed held one.event one.reply stepped → LeavesMemory one → stepped.memory ≡ held.memory
left_as_it_was held one stepped framed leaves = elim (zeroed_or_left one.event) [
  | inl is ↦ absurd (leaves.untampered is)
  | inr same ↦ framed.untold leaves.untold ∙ same held.memory
]

tampered_clean : (world : World) (e : Event) (answer : Reply) (device : Device) (stepped : Held) (done : Steps world e answer device stepped) → e ≡ event.Tamper
    → Clean stepped.memory.bbram done.next.state
tampered_clean world e answer device stepped done is =
    let none : done.next.state ≡ None = tampered_is_dead world answer done.next (subst (λ (x : Event). Step world x answer done.next) is done.step) in
    subst (Clean stepped.memory.bbram) (sym none)
    (dead_is_clean stepped.memory.flash stepped.memory.bbram (subst (StandsFor stepped.memory.flash stepped.memory.bbram) none done.sound.shown.stands))

-- the same bytes, clean before, are clean after
left_clean : (held stepped : Held) (state : Option State) → HoldsNoOther held → stepped.memory ≡ held.memory → AreBytes stepped.memory
    → StandsFor stepped.memory.flash stepped.memory.bbram state → Clean stepped.memory.bbram state
left_clean held stepped state clean same bytes stands =
    let before : StandsFor stepped.memory.flash stepped.memory.bbram clean.world.state =
    subst (λ (m : Memory). StandsFor m.flash m.bbram clean.world.state) (sym same) clean.shown.stands in
    let one : clean.world.state ≡ state = one_meaning stepped.memory.flash stepped.memory.bbram clean.world.state state bytes.flash bytes.bbram before stands in
    subst (Clean stepped.memory.bbram) one (subst (λ (m : Memory). Clean m.bbram clean.world.state) (sym same) clean.clean)

pub clean_after : (world : World) (e : Event) (answer : Reply) (device : Device) (held stepped : Held) (done : Steps world e answer device stepped) → IsFramed held e answer stepped
    → HasToBeClean held stepped e answer → Clean stepped.memory.bbram done.next.state
clean_after world e answer device held stepped done framed (power_is_on on) = done.sound.clean on
clean_after world e answer device held stepped done framed (device_was_tampered is) = tampered_clean world e answer device stepped done is
clean_after world e answer device held stepped done framed (nothing_was_left clean unstopped) = by (may_have_written answer) refl (zeroed_or_left e)
  where
    by : (wrote : Bool) → may_have_written answer ≡ wrote → (e ≡ event.Tamper) ⊎ ((memory : Memory) → memory_after (Some e) memory ≡ memory)
        → Clean stepped.memory.bbram done.next.state
    by true wrote any =
        done.sound.clean
        (λ dark. written_is_on world e answer done.next done.step (written_or_stopped answer wrote unstopped) (done.sound.shown.phase ∙ dark))
    by false quiet (inl is) = tampered_clean world e answer device stepped done is
    by false quiet (inr same) =
        let stays : stepped.memory ≡ held.memory = framed.untold quiet ∙ same held.memory in
        left_clean held stepped done.next.state clean stays (subst AreBytes (same held.memory ∙ sym stays) framed.bytes) done.sound.shown.stands

-- and so does a boot, where the memory was clean
pub quiet_as_it_was : (held : Held) (one : Answered) (stepped : Held) (state : State) → IsFramed held one.event one.reply stepped → Clean held.memory.bbram (Some state) → LeavesCleanMemory one → stepped.memory ≡ held.memory
quiet_as_it_was held one stepped state framed clean (inl leaves) = left_as_it_was held one stepped framed leaves
quiet_as_it_was held one stepped state framed clean (inr boot) = framed.quiet boot state clean

-- ---- several events

-- the last of several answers, where they leave the memory clean
pub data WipesLast (sooner : List Answered) (last : Answered) : Type 0 where
  at_boot : last.reply ≡ reply.Booted → WipesLast sooner last
  at_tamper : last.event ≡ event.Tamper → WipesLast sooner last
  before : AreWiping sooner → last.reply ≢ reply.Stopped → WipesLast sooner last

pub wiping_last : (sooner : List Answered) (last : Answered) → AreWiping (sooner ++ last ∷ []) → WipesLast sooner last
wiping_last sooner last wiping = by (two_splits sooner wiping.sooner last wiping.wiping [] wiping.later wiping.split)
  where
    by : ((sooner ≡ wiping.sooner) × (last ≡ wiping.wiping))
        ⊎ (((more : List Answered) × (wiping.sooner ≡ sooner ++ last ∷ more)) ⊎ ((more : List Answered) × (sooner ≡ wiping.sooner ++ wiping.wiping ∷ more)))
        → WipesLast sooner last
    by (inl same) = elim (wiping.wipes) [
      | inl booted ↦ at_boot (ap (λ (a : Answered). a.reply) same.1 ∙ booted)
      | inr tampered ↦ at_tamper (ap (λ (a : Answered). a.event) same.1 ∙ tampered)
    ]
    by (inr (inl (more, past))) =
        absurd (omega (arith, ap length wiping.split, ap length past, length-append sooner (last ∷ []), length-append wiping.sooner (wiping.wiping ∷ wiping.later), length-append sooner (last ∷ more)))
    by (inr (inr (more, within))) =
        let P : Answered → Type 0 = λ a. a.reply ≢ reply.Stopped in
        let whole : (wiping.sooner ++ wiping.wiping ∷ more) ++ last ∷ [] ≡ wiping.sooner ++ wiping.wiping ∷ wiping.later = ap (λ (s : List Answered). s ++ last ∷ []) (sym within) ∙ wiping.split in
        let tails : wiping.wiping ∷ more ++ last ∷ [] ≡ wiping.wiping ∷ wiping.later =
        append_cancel_left wiping.sooner (wiping.wiping ∷ more ++ last ∷ []) (wiping.wiping ∷ wiping.later) (sym (append_assoc wiping.sooner (wiping.wiping ∷ more) (last ∷ [])) ∙ whole) in
        let later : more ++ last ∷ [] ≡ wiping.later = (cons_same wiping.wiping wiping.wiping (more ++ last ∷ []) wiping.later tails).1 in
        let unstopped = All-pop P (more ++ last ∷ []) more (Some last) refl (subst (All P) (sym later) wiping.unstopped) in
        before (record { sooner = wiping.sooner; wiping = wiping.wiping; later = more; split = within; wipes = wiping.wipes; unstopped = unstopped.0 }) unstopped.1
