-- What a board holds whose power was turned off between two runs.
use Rattle.std.proofs.Common.{◌≡◌, ◌≤◌, Bool, false, [], inl, inr, sym, ◌∙◌, ap, subst}
use Rattle.mb_model.specs.machine.Machine.{off}
use Rattle.mb_model.specs.outside.Board.{Memory, Ledger, Meter, Held, phase_at}
use Rattle.mb_board.specs.Calls.{Seen, IsSwitched, IsBetweenEvents, held_in}
use Rattle.mb_tools_device.specs.Holding.{HoldsShut, EndsHolding}

-- a board with its power off
dark : (seen : Seen) → seen.power ≡ false → held_in seen ≡ record { memory = seen.memory; phase = off; armed = seen.meter.armed }
dark seen is = ap (λ (b : Bool). let h : Held = record { memory = seen.memory; phase = phase_at b seen.level; armed = seen.meter.armed } in h) is

-- two boards of one memory and one meter
alike : (one other : Seen) → one.memory ≡ other.memory → one.meter ≡ other.meter
    → (let h : Held = record { memory = one.memory; phase = off; armed = one.meter.armed } in h) ≡ record { memory = other.memory; phase = off; armed = other.meter.armed }
alike one other same_memory same_meter =
    ap (λ (m : Memory). let h : Held = record { memory = m; phase = off; armed = one.meter.armed } in h) same_memory
    ∙ ap (λ (n : Meter). let h : Held = record { memory = other.memory; phase = off; armed = n.armed } in h) same_meter

-- power was turned off once all events were answered
pub shut_holds : (old new : Seen) → 1 ≤ old.ledger.loads → IsBetweenEvents old → old.ledger.waiting ≡ [] → IsSwitched old new → new.power ≡ false → HoldsShut new
shut_holds old new loaded between none switched is = record {
  loaded = subst (λ (l : Ledger). 1 ≤ l.loads) (sym switched.ledger) loaded;
  shut =
      dark new is ∙ alike new old switched.memory switched.meter
      ∙ ap (λ (h : Held). record h { phase = off }) (sym between.standing) ∙ ap (λ (l : Ledger). record l.standing { phase = off }) (sym switched.ledger);
  none_out = ap (λ (l : Ledger). l.out) switched.ledger ∙ between.none_out;
  none_waits = ap (λ (l : Ledger). l.waiting) switched.ledger ∙ none;
}

-- what a board holds in the end, by what is known of the end
pub holding_where : {Done Less Shut More : Type 0} (before after : Seen) → (Less → Done) → (Shut → More) → EndsHolding Done Shut before after → EndsHolding Less More before after
holding_where before after less more (inl alone) = inl alone
holding_where before after less more (inr (inl holds)) = inr (inl (record { loaded = holds.loaded; between = holds.between; none_waits = λ done. holds.none_waits (less done) }))
holding_where before after less more (inr (inr shut)) = inr (inr (more shut.0, shut.1))
