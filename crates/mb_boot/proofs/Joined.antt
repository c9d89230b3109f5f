-- What calls promise that follow one another, by what each of them promises.
use Rattle.std.proofs.Common.{◌≡◌, ℕ, ◌+◌, ◌*◌, ◌≤◌, Result, Ok, Err, refl, sym, ap, subst, ◌∙◌, arith}
use Rattle.std.specs.Prelude.{OnOk}
use Rattle.mb_model.specs.declared.stored.Root.{Root}
use Rattle.mb_model.specs.outside.Board.{Memory, Meter}
use Rattle.mb_board.specs.Calls.{Seen, IsMetered, IsUp, Ran, RanOnBbram}
use Rattle.mb_model_memory.specs.Holding.{KeepsContents, KeepsMeaning}
use Rattle.mb_model_memory.proofs.FlashFrames.{agree_then}
use Rattle.mb_model_memory.proofs.HoldingLemmas.{contents_keep, keeps_then}
use Rattle.mb_area.specs.Roots.{IsOnlyRoot, KeepsOrFinishes}
use Rattle.mb_boot.specs.Calls.{WritesBeside, DoesWork}
use Rattle.mb_boot.specs.Settling.{AppliesBoth, SignsRecord, Settles}
use Rattle.mb_boot.proofs.Settled.{finish_keeps, spared_by_writes, spared_then}

-- ---- what is counted

-- calls after calls that power did not stop
metered_then : {A E C D : Type 0} (n m : ℕ) (value : A) (result : Result C D) (before between after : Meter) → IsMetered n {A = A} {E = E} (Ok value) before between → IsMetered m result between after → IsMetered (n + m) result before after
metered_then n m value (Ok next) before between after first second = record { armed = second.armed ∙ first.armed; stops = second.stops ∙ first.stops; writes = omega (arith, first.writes, second.writes); cut = tt }
metered_then n m value (Err stop) before between after first second =
    record { armed = second.armed; stops = second.stops ∙ ap (λ k. k + 1) first.stops; writes = omega (arith, first.writes, second.writes); cut = sym first.armed ∙ second.cut }

pub ran_then : {A E C D : Type 0} (n m : ℕ) (value : A) (result : Result C D) (before between after : Seen) → Ran n {A = A} {E = E} (Ok value) before between → Ran m result between after → Ran (n + m) result before after
ran_then {A} {E} n m value (Ok next) before between after first second = record {
  power = second.power;
  level = second.level ∙ first.level;
  sized = second.sized;
  ledger = second.ledger ∙ first.ledger;
  meter = metered_then n m value (Ok next) before.meter between.meter after.meter first.meter second.meter;
}
ran_then {A} {E} n m value (Err stop) before between after first second = record {
  power = second.power;
  level = second.level;
  sized = second.sized;
  ledger = second.ledger ∙ first.ledger;
  meter = metered_then n m value (Err stop) before.meter between.meter after.meter first.meter second.meter;
}

-- what is handed on counts the same
pub ok_most : {A B C D : Type 0} (n m : ℕ) (value : A) (other : B) (before after : Seen) → n ≤ m → Ran n {A = A} {E = C} (Ok value) before after → Ran m {A = B} {E = D} (Ok other) before after
ok_most n m value other before after most ran = record {
  power = ran.power;
  level = ran.level;
  sized = ran.sized;
  ledger = ran.ledger;
  meter = record { armed = ran.meter.armed; stops = ran.meter.stops; writes = omega (arith, most, ran.meter.writes); cut = tt };
}

pub err_most : {A B C D : Type 0} (n m : ℕ) (stop : C) (other : D) (before after : Seen) → n ≤ m → Ran n {A = A} {E = C} (Err stop) before after → Ran m {A = B} {E = D} (Err other) before after
err_most n m stop other before after most ran = record {
  power = ran.power;
  level = ran.level;
  sized = ran.sized;
  ledger = ran.ledger;
  meter = record { armed = ran.meter.armed; stops = ran.meter.stops; writes = omega (arith, most, ran.meter.writes); cut = ran.meter.cut };
}

-- nothing was called
pub ran_not : {A E : Type 0} (n : ℕ) (value : A) (seen : Seen) → IsUp 1 seen → Ran n {A = A} {E = E} (Ok value) seen seen
ran_not n value seen up =
    record { power = up.on; level = refl; sized = up.loaded; ledger = refl; meter = record { armed = refl; stops = refl; writes = omega arith; cut = tt } }

pub still_up : {A E : Type 0} (n : ℕ) (value : A) (before after : Seen) → Ran n {A = A} {E = E} (Ok value) before after → IsUp 1 before → IsUp 1 after
still_up n value before after ran up = record { on = ran.power; at_level = ran.level ∙ up.at_level; loaded = ran.sized }

-- ---- writes beside what counts

pub beside_then : {A C D E : Type 0} (P Q R : Memory → Memory → Type 0) (area n m : ℕ) (value : A) (result : Result C D) (before between after : Seen)
    → WritesBeside P area n {A = A} {E = E} (Ok value) before between → WritesBeside Q area m result between after → OnOk result (R before.memory after.memory) → WritesBeside R area (n + m) result before after
beside_then P Q R area n m value result before between after first second done = record {
  done = done;
  contents = record { kept = λ contents holds. second.contents.kept contents (first.contents.kept contents holds) };
  agree = agree_then before.memory.flash between.memory.flash after.memory.flash area first.agree second.agree;
  ran = record { ran = ran_then n m value result before between after first.ran.ran second.ran.ran; bbram = second.ran.bbram ∙ first.ran.bbram };
}

pub beside_stopped : {A B C D : Type 0} (P R : Memory → Memory → Type 0) (area n m : ℕ) (stop : C) (other : D) (before after : Seen) → n ≤ m
    → WritesBeside P area n {A = A} {E = C} (Err stop) before after → WritesBeside R area m {A = B} {E = D} (Err other) before after
beside_stopped P R area n m stop other before after most first =
    record { done = tt; contents = first.contents; agree = first.agree; ran = record { ran = err_most n m stop other before after most first.ran.ran; bbram = first.ran.bbram } }

-- ---- work

-- work, and then calls that keep the contents and write no flash
pub work_then : {A C D E : Type 0} (P R : Memory → Memory → Type 0) (n m : ℕ) (value : A) (result : Result C D) (before between after : Seen) (hashes hashes_after : ℕ)
    → DoesWork P n {A = A} {E = E} (Ok value) before between hashes hashes_after → KeepsContents between.memory after.memory → after.memory.flash ≡ between.memory.flash → Ran m result between after
    → OnOk result (R before.memory after.memory) → DoesWork R (n + m) result before after hashes hashes_after
work_then P R n m value result before between after hashes hashes_after first contents same ran done = record {
  done = done;
  meaning = keeps_then before.memory between.memory after.memory first.meaning (contents_keep between.memory after.memory ran.sized contents);
  spared = spared_then before.memory between.memory after.memory first.spared same;
  ran = ran_then n m value result before between after first.ran ran;
  cost = first.cost;
}

pub work_stopped : {A B C D : Type 0} (P R : Memory → Memory → Type 0) (n m : ℕ) (stop : C) (other : D) (before after : Seen) (hashes hashes_after : ℕ) → n ≤ m
    → DoesWork P n {A = A} {E = C} (Err stop) before after hashes hashes_after → DoesWork R m {A = B} {E = D} (Err other) before after hashes hashes_after
work_stopped P R n m stop other before after hashes hashes_after most first =
    record { done = tt; meaning = first.meaning; spared = first.spared; ran = err_most n m stop other before after most first.ran; cost = first.cost }

-- work from a board that shows what it showed before
pub work_from : {A E : Type 0} (Done : Memory → Memory → Type 0) (n : ℕ) (result : Result A E) (first before after : Seen) (hashes hashes_after : ℕ) → before ≡ first
    → DoesWork Done n result before after hashes hashes_after → DoesWork Done n result first after hashes hashes_after
work_from Done n result first before after hashes hashes_after same work = subst (λ (seen : Seen). DoesWork Done n result seen after hashes hashes_after) same work

-- the fates are applied, the entries signed, and the root record that says so is current, or was not yet
pub settled_work : {A B C D E : Type 0} (applied_to : A) (signed_to : B) (result : Result C D) (first applied written last : Seen) (root : Root) (hashes hashes_after : ℕ)
    → IsOnlyRoot first.memory.bbram root → AppliesBoth first.memory applied.memory → KeepsMeaning first.memory applied.memory → RanOnBbram 4 {A = A} {E = E} (Ok applied_to) first applied
    → WritesBeside SignsRecord root.area 6 {A = B} {E = E} (Ok signed_to) applied written → KeepsOrFinishes written.memory last.memory → last.memory.flash ≡ written.memory.flash → Ran 2 result written last
    → OnOk result (Settles first.memory last.memory) → hashes_after ≤ hashes + 2 * 35473 → DoesWork Settles 12 result first last hashes hashes_after
settled_work applied_to signed_to result first applied written last root hashes hashes_after only fates meaning ran signs finish same finish_ran done cost = record {
  done = done;
  meaning = finish_keeps first.memory applied.memory written.memory last.memory finish_ran.sized
      (keeps_then first.memory applied.memory written.memory meaning (contents_keep applied.memory written.memory signs.ran.ran.sized signs.contents)) fates signs.contents signs.done finish;
  spared = spared_then first.memory written.memory last.memory (spared_by_writes first.memory applied.memory written.memory root only ran.flash signs.agree) same;
  ran = ran_then 10 2 signed_to result first written last (ran_then 4 6 applied_to (Ok signed_to) first applied written ran.ran signs.ran.ran) finish_ran;
  cost = cost;
}
