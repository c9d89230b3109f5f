-- Roots as they are read, written and put in force.
use Rattle.std.proofs.Common.{◌≡◌, ◌↔◌, ℕ, ◌-◌, ◌≤◌, ◌⊎◌, inl, inr, true, false, List, [], ◌++◌, length, Option, None, Some, Result, Ok, Err, refl, sym, ap, subst, ◌∙◌, arith, rules}
use Rattle.std.specs.Bool.{IsTrue}
use Rattle.std.specs.Option.{is_some}
use Rattle.std.specs.Global.{Vec}
use Rattle.std.specs.Vec.{vec_len, vec_capacity}
use Rattle.mb_format.specs.Format.{IsBytes, Spells}
use Rattle.mb_format.proofs.Whole.{IsClearWhole-from_exact}
use Rattle.mb_bytes.specs.Puts.{Writes}
use Rattle.mb_model.specs.declared.stored.Pending.{Pending}
use Rattle.mb_model.specs.declared.stored.Root.{Root}
use Rattle.mb_model.specs.records.RootFormat.{pending_format, root_format}
use Rattle.mb_model.specs.outside.Board.{Memory, IsLoaded}
use Rattle.mb_model.specs.memories.Memory.{IsBlank, area_of_slot, HoldsInArea, HoldsRecord}
use Rattle.mb_model.specs.memories.Meaning.{RootIn, Contents, HoldsContents, state_of_contents}
use Rattle.mb_model.specs.memories.Clean.{root_of}
use Rattle.mb_model_lemmas.proofs.MeaningLemmas.{one_root}
use Rattle.mb_model_memory.specs.Commits.{both_done, at_rest}
use Rattle.mb_model_memory.specs.Holding.{KeepsContents}
use Rattle.mb_model_memory.specs.FlashInForce.{AgreeForArea}
use Rattle.mb_model_memory.proofs.FlashFrames.{agree_same}
use Rattle.mb_model_memory.proofs.CommitLemmas.{stands_for_meant}
use Rattle.mb_model_memory.proofs.HoldingLemmas.{contents_keep}
use Rattle.mb_model_memory.specs.InForce.{AgreeBesides}
use Rattle.mb_model_memory.proofs.FrameLemmas.{contents_agree, root_replaced}
use Rattle.mb_model_memory.proofs.RestLemmas.{work_finished, rest_stands, meant_layers}
use Rattle.mb_model_memory.proofs.StorableFormats.{none_allowed}
use Rattle.mb_model_memory.proofs.StorableRecords.{root_room}
use Rattle.mb_model.proofs.RecordFormatLaws.{root_exact}
use Rattle.mb_model_lemmas.proofs.PublicLemmas.{bounded_by}
use Rattle.mb_layout.proofs.Areas.{one_held as one_bytes}
use Rattle.mb_board.specs.Calls.{Seen}
use Rattle.mb_layout.specs.declared.room.Room.{Room}
use Rattle.mb_area.specs.declared.state.Unsettled.{Unsettled}
use Rattle.mb_area.specs.Calls.{StoresRoot, MakesRootCurrent, FinishesRoot}
use Rattle.mb_area.specs.Roots.{HoldsSomeRoot, HasSomeRoot, IsOnlyRoot, CommitsRoot, settled_root, Finishes, KeepsOrFinishes, MeansByRoot, KeepsOrMeansByRoot, MeansAsReady}

-- ---- reading

-- no bytes are blank
none_blank : IsBlank []
none_blank = λ k d less. absurd (omega arith)

-- an area holds one root
pub one_held : (area : List ℕ) (root any : Root) → IsBytes area → HoldsRecord root_format area root → HoldsRecord root_format area any → any ≡ root
one_held area root any are holds here = one_root 0xA5 [] area any root are (record { alive = refl; blank = none_blank; holds = here }) (record { alive = refl; blank = none_blank; holds = holds })

pub in_force : (area bbram : List ℕ) (root : Root) → area ≡ area_of_slot bbram 1 → HoldsRecord root_format area root → HoldsRecord root_format (area_of_slot bbram 1) root
in_force area bbram root same holds = subst (λ (xs : List ℕ). HoldsRecord root_format xs root) same holds

pub some_held : (area : List ℕ) (memory : Memory) → area ≡ area_of_slot memory.bbram 1 → HasSomeRoot memory → HoldsSomeRoot area
some_held area memory same some = record { root = some.root; holds = subst (λ (xs : List ℕ). HoldsRecord root_format xs some.root) (sym same) some.holds.holds }

-- ---- writing

pub settled_allowed : (root : Root) → root_format.Allowed root → root_format.Allowed (settled_root root)
unfolding root_format
settled_allowed root is = (tt, ((omega arith, omega arith), (is.1.1.0, (is.1.1.1.0, (is.1.1.1.1.0, none_allowed pending_format)))))

pub record IsSpelled (bytes : List ℕ) (root : Root) : Type 0 where
  pub spelled : Spells root_format bytes root
  pub short : length bytes ≤ 4094

pub root_spelled : {E : Type 0} (root : Root) (cleared new : Vec ℕ) (result : Result (Unit {0}) E) → root_format.Allowed root → cleared.items ≡ [] → vec_len cleared ≡ 0 → 4096 ≤ vec_capacity cleared
    → Writes (root_format.spelling root) cleared result new → IsSpelled new.items root
root_spelled root cleared new (Ok u) allowed empty none room w =
    let whole : new.items ≡ root_format.spelling root = w.items ∙ ap (λ (xs : List ℕ). xs ++ root_format.spelling root) empty in
    record { spelled = record { allowed = allowed; whole = whole }; short = omega (arith, root_room root allowed, ap length whole) }
root_spelled root cleared new (Err e) allowed empty none room w = absurd (omega (arith, w.no_room, root_room root allowed))

pub still_room : {E : Type 0} (root : Root) (cleared new : Vec ℕ) (result : Result (Unit {0}) E) → root_format.Allowed root → vec_len cleared ≡ 0 → 4096 ≤ vec_capacity cleared
    → Writes (root_format.spelling root) cleared result new → vec_capacity cleared ≤ vec_capacity new
still_room root cleared new (Ok u) allowed none room w = w.capacity
still_room root cleared new (Err e) allowed none room w = absurd (omega (arith, w.no_room, root_room root allowed))

-- ---- a slot in force as it was

pub kept_in_force : (before after : Memory) → AgreeBesides 1 before.bbram after.bbram → area_of_slot after.bbram 1 ≡ area_of_slot before.bbram 1 → after.flash ≡ before.flash → KeepsContents before after
kept_in_force before after agree same flash = record {
  kept = λ contents holds. contents_agree before.flash before.bbram after.flash after.bbram contents (record {
    life = agree.life;
    between = agree.between;
    root = same;
    two = agree.others 2 (omega arith) (omega arith) (λ e. omega (arith, e));
    three = agree.others 3 (omega arith) (omega arith) (λ e. omega (arith, e));
    public = λ root has. subst (λ (xs : List ℕ). AgreeForArea before.flash xs root.area) (sym flash) (agree_same before.flash root.area);
  }) holds;
}

-- ---- a root put in force

pub small_area : (bbram : List ℕ) (root : Root) → IsOnlyRoot bbram root → root.area ≤ 1
small_area bbram root is = (bounded_by root is.holds.holds.spelled.allowed).area

-- an area that was filled with the bytes of a root holds no other
pub only_held : (area filled bytes : List ℕ) (root : Root) → area ≡ filled → HoldsInArea filled bytes → IsBytes bytes → Spells root_format bytes root → (any : Root) → HoldsRecord root_format area any → any ≡ root
only_held area filled bytes root same holds are spelled any other =
    let own : other.bytes ≡ bytes = one_bytes other.bytes bytes other.holds (subst (λ (xs : List ℕ). HoldsInArea xs bytes) (sym same) holds) in
    (IsClearWhole-from_exact root_exact).one_value bytes any root are (subst (λ (xs : List ℕ). Spells root_format xs any) own other.spelled) spelled

-- it holds that root
pub root_stands : (area filled bytes : List ℕ) (root : Root) → area ≡ filled → HoldsInArea filled bytes → Spells root_format bytes root → HoldsRecord root_format area root
root_stands area filled bytes root same holds spelled = record { bytes = bytes; holds = subst (λ (xs : List ℕ). HoldsInArea xs bytes) (sym same) holds; spelled = spelled }

pub root_stands_or_not : (area before filled bytes : List ℕ) (root : Root) → (area ≡ before) ⊎ (area ≡ filled) → HoldsInArea filled bytes → Spells root_format bytes root → (area ≡ before) ⊎ HoldsRecord root_format area root
root_stands_or_not area before filled bytes root (inl same) holds spelled = inl same
root_stands_or_not area before filled bytes root (inr same) holds spelled = inr (root_stands area filled bytes root same holds spelled)

-- where a device is live, the root that its slot holds alone is the only one
pub held_alone : (root : Root) (before after : Memory) → AgreeBesides 1 before.bbram after.bbram → HoldsRecord root_format (area_of_slot after.bbram 1) root
    → ((any : Root) → HoldsRecord root_format (area_of_slot after.bbram 1) any → any ≡ root) → HasSomeRoot before → IsOnlyRoot after.bbram root
held_alone root before after agree own only some = record {
  holds = record { alive = agree.life ∙ some.holds.alive; blank = subst IsBlank (sym agree.between) some.holds.blank; holds = own };
  only = λ any has. only any has.holds;
}

pub root_committed : (root : Root) (before after : Memory) → AgreeBesides 1 before.bbram after.bbram → HoldsRecord root_format (area_of_slot after.bbram 1) root → after.flash ≡ before.flash → CommitsRoot root before after
root_committed root before after agree own flash = record {
  committed = λ contents codes signed unsigned holds public.
      subst (λ (xs : List ℕ). HoldsContents xs after.bbram (record contents { root = root; codes = codes; signed = signed; unsigned = unsigned })) (sym flash)
      (root_replaced before.flash before.bbram after.bbram contents root codes signed unsigned agree own public holds);
}

pub committed_or_kept : (root : Root) (before after : Memory) → AgreeBesides 1 before.bbram after.bbram → after.flash ≡ before.flash
    → (area_of_slot after.bbram 1 ≡ area_of_slot before.bbram 1) ⊎ HoldsRecord root_format (area_of_slot after.bbram 1) root → KeepsContents before after ⊎ CommitsRoot root before after
committed_or_kept root before after agree flash (inl same) = inl (kept_in_force before after agree same flash)
committed_or_kept root before after agree flash (inr own) = inr (root_committed root before after agree own flash)

settled_is : (contents : Contents) → settled_root contents.root ≡ root_of (state_of_contents contents) (1 - contents.root.area)
unfolding state_of_contents
settled_is contents = refl

pub root_finished : (root : Root) (before after : Memory) → ((any : Root) → RootIn before.bbram any → any ≡ root) → AgreeBesides 1 before.bbram after.bbram → HoldsRecord root_format (area_of_slot after.bbram 1) (settled_root root) → after.flash ≡ before.flash
    → Finishes before after
root_finished root before after only agree own flash = record {
  finishes = λ contents ready. (
      let same : contents.root ≡ root = only contents.root ready.holds.root in
      let area : ℕ = 1 - contents.root.area in
      let here : HoldsRecord root_format (area_of_slot after.bbram 1) (root_of (state_of_contents contents) area) =
      subst (HoldsRecord root_format (area_of_slot after.bbram 1)) (sym (ap settled_root same) ∙ settled_is contents) own in
      let done : HoldsContents before.flash before.bbram (both_done contents) = subst (HoldsContents before.flash before.bbram) (sym ready.applied) ready.holds in
      subst (λ (xs : List ℕ). HoldsContents xs after.bbram (at_rest (state_of_contents contents) area)) (sym flash)
      (work_finished before.flash before.bbram after.bbram contents area agree here ready.signed done));
}

pub finished_or_kept : (root : Root) (before after : Memory) → ((any : Root) → RootIn before.bbram any → any ≡ root) → AgreeBesides 1 before.bbram after.bbram → after.flash ≡ before.flash
    → (area_of_slot after.bbram 1 ≡ area_of_slot before.bbram 1) ⊎ HoldsRecord root_format (area_of_slot after.bbram 1) (settled_root root) → KeepsContents before after ⊎ Finishes before after
finished_or_kept root before after only agree flash (inl same) = inl (kept_in_force before after agree same flash)
finished_or_kept root before after only agree flash (inr own) = inr (root_finished root before after only agree own flash)

-- ---- whether work is pending

pub is_pending : (root any : Root) → any ≡ root → true ≡ is_some root.pending → any.pending ≡ None → ⊥
is_pending root any same some none =
    let clash : true ≡ is_some {T = Pending} None = some ∙ ap (λ (r : Root). is_some r.pending) (sym same) ∙ ap is_some none in
    cc

none_in : {A : Type 0} (option : Option A) → false ≡ is_some option → option ≡ None
none_in None e = refl
none_in (Some x) e = absurd (cc)

pub none_pending : (root any : Root) → any ≡ root → false ≡ is_some root.pending → any.pending ≡ None
none_pending root any same none = ap (λ (r : Root). r.pending) same ∙ none_in root.pending none

-- what would make a false test true does not hold
pub is_not : {P : Type 0} → (IsTrue false ↔ P) → P → ⊥
is_not both p = let clash : false ≡ true = both.1 p in cc

-- ---- the state

pub committed_means : (root : Root) (before after : Memory) → IsLoaded after → CommitsRoot root before after → MeansByRoot root before after
committed_means root before after sized commits = record {
  means = λ contents codes signed unsigned holds public index. (
      let next : Contents = record contents { root = root; codes = codes; signed = signed; unsigned = unsigned } in
      stands_for_meant after.flash after.bbram next (state_of_contents next) sized (commits.committed contents codes signed unsigned holds public) index refl);
}

pub committed_means_or_kept : (root : Root) (before after : Memory) → IsLoaded after → KeepsContents before after ⊎ CommitsRoot root before after → KeepsOrMeansByRoot root before after
committed_means_or_kept root before after sized (inl keeps) = inl (contents_keep before after sized keeps)
committed_means_or_kept root before after sized (inr commits) = inr (committed_means root before after sized commits)

pub finished_means : (before after : Memory) → IsLoaded after → KeepsOrFinishes before after → MeansAsReady before after
finished_means before after sized (inl keeps) = record { means = λ contents ready means. (contents_keep before after sized keeps).kept (state_of_contents contents) means }
finished_means before after sized (inr done) = record {
  means = λ contents ready means.
      rest_stands after.flash after.bbram (state_of_contents contents) (1 - contents.root.area) sized (meant_layers contents) (done.finishes contents ready);
}

-- ---- the calls, by what storing a root leaves

pub committed_ok : {A E F : Type 0} (root : Root) (room room_after : Room) (before after : Seen) (value : A) (unsettled : Unsettled) → unsettled.root ≡ root → StoresRoot root room room_after {A = A} {E = E} (Ok value) before after
    → MakesRootCurrent root room room_after {E = F} (Ok unsettled) before after
committed_ok root room room_after before after value unsettled same stored =
    let done = root_committed root before.memory after.memory stored.besides stored.done stored.ran.flash in
    let means = committed_means root before.memory after.memory stored.ran.ran.sized done in
    record {
      root = same;
      only = held_alone root before.memory after.memory stored.besides stored.done stored.only;
      done = done;
      either = inr done;
      means = means;
      means_either = inr means;
      ran = search rules;
      plans = stored.plans;
    }

pub committed_err : {A E F : Type 0} (root : Root) (room room_after : Room) (before after : Seen) (error : E) (other : F) → StoresRoot root room room_after {A = A} {E = E} (Err error) before after
    → MakesRootCurrent root room room_after {E = F} (Err other) before after
committed_err root room room_after before after error other stored =
    let either = committed_or_kept root before.memory after.memory stored.besides stored.ran.flash stored.either in
    record {
      root = tt;
      only = λ some. tt;
      done = tt;
      either = either;
      means = tt;
      means_either = committed_means_or_kept root before.memory after.memory stored.ran.ran.sized either;
      ran = search rules;
      plans = stored.plans;
    }

pub finished_ok : {A B E F : Type 0} (root settled : Root) (room room_after : Room) (before after : Seen) (value : A) (other : B) → IsOnlyRoot before.memory.bbram root → settled ≡ settled_root root
    → StoresRoot settled room room_after {A = A} {E = E} (Ok value) before after → FinishesRoot room room_after {A = B} {E = F} (Ok other) before after
finished_ok root settled room room_after before after value other current same stored =
    let own = subst (HoldsRecord root_format (area_of_slot after.memory.bbram 1)) same stored.done in
    let done = root_finished root before.memory after.memory current.only stored.besides own stored.ran.flash in
    record {
      done = done;
      either = inr done;
      means = finished_means before.memory after.memory stored.ran.ran.sized (inr done);
      ran = search rules;
      plans = stored.plans;
    }

pub finished_err : {A B E F : Type 0} (root settled : Root) (room room_after : Room) (before after : Seen) (error : E) (other : F) → IsOnlyRoot before.memory.bbram root → settled ≡ settled_root root
    → StoresRoot settled room room_after {A = A} {E = E} (Err error) before after → FinishesRoot room room_after {A = B} {E = F} (Err other) before after
finished_err root settled room room_after before after error other current same stored =
    let own = subst (λ (r : Root). (area_of_slot after.memory.bbram 1 ≡ area_of_slot before.memory.bbram 1) ⊎ HoldsRecord root_format (area_of_slot after.memory.bbram 1) r) same stored.either in
    let either = finished_or_kept root before.memory after.memory current.only stored.besides stored.ran.flash own in
    record {
      done = tt;
      either = either;
      means = finished_means before.memory after.memory stored.ran.ran.sized either;
      ran = search rules;
      plans = stored.plans;
    }
