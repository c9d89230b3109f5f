-- The examples of orders, computed.
use Rattle.std.proofs.Common.{◌≡◌, ℕ, List, [], ◌∷◌, ◌++◌, length, get_or, replicate, true, Err, inl, inr, refl, sym, ap, ◌∙◌, arith, lit≤, lit<}
use Rattle.std.specs.Prelude.{codes}
use Rattle.std.proofs.lemmas.Bool.{false≢true}
use Rattle.std.proofs.lemmas.List.Elements.{All-nil, All-cons}
use Rattle.mb_format.specs.Format.{Spells}
use Rattle.mb_format.specs.Combinators.{number_bytes, items}
use Rattle.mb_format.specs.Reading.{reads_whole, raw_at, number_at}
use Rattle.mb_format.proofs.Whole.{IsClearWhole-from_exact}
use Rattle.mb_model.specs.declared.key.Trust.TheVariants.{Always}
use Rattle.mb_model.specs.declared.order.Act.{Act}
use Rattle.mb_model.specs.declared.order.Act.TheVariants as act
use Rattle.mb_model.specs.declared.order.KeyKind.TheVariants as kinds
use Rattle.mb_model.specs.declared.order.Order.{Order}
use Rattle.mb_model.specs.declared.order.Target.TheVariants as target
use Rattle.mb_model.specs.declared.reply.Reply.TheVariants as reply
use Rattle.mb_model.specs.declared.state.State.{State}
use Rattle.mb_model.specs.records.KeyFormat.{public_key_format}
use Rattle.mb_model.specs.records.LayerFormat.{trust_format}
use Rattle.mb_model.specs.owners.Log.{entries_of, number_of, uses_of_device_key, keys_made_by}
use Rattle.mb_model.specs.owners.Rules.{after}
use Rattle.mb_model.specs.signatures.Merkle.{Verifies}
use Rattle.mb_model.specs.records.OrderFormat.{target_format, body_format, sized_signature_format, countersignatures_format, order_format}
use Rattle.mb_model.specs.declared.reply.OrderRefusal.{OrderRefusal}
use Rattle.mb_model.specs.declared.reply.OrderRefusal.TheVariants.{WrongTarget, WrongState, WrongSignature}
use Rattle.mb_model.specs.machine.Refusals.{order_refusal_number}
use Rattle.mb_model.specs.machine.OrderChecks.{TargetHoldsIn, MayBeGiven, IsSigned, IsCountersigned}
use Rattle.mb_model.specs.machine.OrderChecks.{LogHasRoom, RegionHasRoom, Passes, Fails, view_of}
use Rattle.mb_model.specs.machine.OrderEffects.{entry_signed_by, state_after_succession, state_after_change, state_after_new_key, state_after_order}
use Rattle.mb_model.specs.machine.OrderStep.{spells_none, fails_check, is_obeyed}
use Rattle.mb_model.proofs.OrderFormatLaws.{order_exact}
use Rattle.mb_model.proofs.Passed.{passes_by}
use Rattle.mb_model_examples.specs.RuleExamples.{officer, seven}
use Rattle.mb_model_examples.specs.Device.{alive}
use Rattle.mb_model_examples.specs.OrderExamples.{plain, surrender_two, establish_two, elsewhere, load_of, key_for_three, empty_by, RefusesOrder, RefusedOrders, with_eight_keys, LaterRefusals, ObeysOrder, ObeyedOrders, LeavingExamples, key_nearly_used, nearly_full, grown, SuccessionExamples}
use Rattle.mb_model_examples.proofs.RecordProofs.{byte_test, are_bytes, spells, fails}

-- ---- refusals

spells_no_order : (state : State) (text : List ℕ) (offset : ℕ) → byte_test text ≡ true → reads_whole order_format text ≡ Err offset → RefusesOrder state text 10
spells_no_order state text offset small e draw = spells_none (record {
  none = λ order spelled. (IsClearWhole-from_exact order_exact).never_both text order offset (are_bytes text small) spelled (fails order_exact text offset small e);
  answered = refl;
  stays = refl;
})

refuses : (state : State) (text : List ℕ) (order : Order) (refusal : OrderRefusal) → Spells order_format text order → Fails (view_of state) order refusal → RefusesOrder state text (order_refusal_number refusal)
refuses state text order refusal spelled failing draw =
    fails_check (record { order = order; spelled = spelled; refusal = refusal; fails = failing; answered = refl; stays = refl })

-- a signature of no bytes is nobody's
nobodys : (n : ℕ) (text : List ℕ) → Verifies (officer n) text [] → ⊥
nobodys n text h =
    let sized : ◌≡◌ {A = ℕ} 0 2348 = h.form.sized in
    omega arith

second_target_fails : (signature : List ℕ) (order : Order) → Fails (view_of (alive signature)) (elsewhere order) (WrongTarget 1)
second_target_fails signature order = inl (
  1,
  target.Serial (replicate 16 8),
  refl,
  record {
    before = target.Length 6 ∷ [];
    rest = [];
    split = refl;
    index = refl;
    hold = All-cons (TargetHoldsIn (view_of (alive signature))) (target.Length 6) [] refl (All-nil (TargetHoldsIn (view_of (alive signature))));
    fails = λ e.
        let first : 8 ≡ 9 = ap (λ (serial : List ℕ). get_or serial 0 0) e in
        omega arith;
  },
)

pub refusals : (signature : List ℕ) → RefusedOrders signature
unfolding number_bytes number_at raw_at items public_key_format trust_format target_format body_format sized_signature_format countersignatures_format order_format
refusals signature = record {
  nothing = spells_no_order (alive signature) [] 0 refl refl;
  no_order = spells_no_order (alive signature) (0 ∷ []) 0 refl refl;
  longer = spells_no_order (alive signature) (order_format.spelling surrender_two ++ 0 ∷ []) 6 refl refl;
  target =
      refuses (alive signature) _ (elsewhere surrender_two) (WrongTarget 1)
      (spells order_exact (order_format.spelling (elsewhere surrender_two)) (elsewhere surrender_two) refl refl)
      (second_target_fails signature surrender_two);
  second_target = second_target_fails signature surrender_two;
  target_before_state =
      refuses (alive signature) _ (elsewhere establish_two) (WrongTarget 1)
      (spells order_exact (order_format.spelling (elsewhere establish_two)) (elsewhere establish_two) refl refl)
      (second_target_fails signature establish_two);
  state_before_signature =
      refuses (alive signature) _ establish_two WrongState
      (spells order_exact (order_format.spelling establish_two) establish_two refl refl)
      (inr (All-nil (TargetHoldsIn (view_of (alive signature))), inl (refl, false≢true)));
  not_signed = λ h. nobodys 1 _ h;
  signature_wrong =
      refuses (alive signature) _ surrender_two WrongSignature
      (spells order_exact (order_format.spelling surrender_two) surrender_two refl refl)
      (inr (All-nil (TargetHoldsIn (view_of (alive signature))), inr (refl, inl (refl, λ h. nobodys 2 _ h))));
}

pub later : (signature by_owner : List ℕ) → LaterRefusals signature by_owner
unfolding number_of uses_of_device_key
later signature by_owner = record {
  countersignature = λ signed. inr (
    All-nil (TargetHoldsIn (view_of (alive signature))),
    inr (
      refl,
      inr (
        signed,
        inl (
          0,
          empty_by 2,
          refl,
          record {
            before = [];
            rest = empty_by 3 ∷ [];
            split = refl;
            index = refl;
            hold = All-nil (IsCountersigned (view_of (alive signature)) (load_of 1 by_owner));
            fails = λ h. nobodys 2 _ h;
          },
        ),
      ),
    ),
  );
  second_countersignature = λ by layer signed given. inr (
    All-nil (TargetHoldsIn (view_of (alive signature))),
    inr (
      refl,
      inr (
        signed,
        inl (
          1,
          empty_by 3,
          refl,
          record {
            before = by ∷ [];
            rest = [];
            split = refl;
            index = refl;
            hold = All-cons (IsCountersigned (view_of (alive signature)) (load_of 1 by_owner)) by [] given (All-nil (IsCountersigned (view_of (alive signature)) (load_of 1 by_owner)));
            fails = λ h. nobodys 3 _ h;
          },
        ),
      ),
    ),
  );
  keys = λ signed. inr (
    All-nil (TargetHoldsIn (view_of (with_eight_keys signature))),
    inr (
      refl,
      inr (
        signed,
        inr (
          All-nil (IsCountersigned (view_of (with_eight_keys signature)) (key_for_three by_owner)),
          inr (lit≤ tt, inl (refl, λ h. omega (arith, h))),
        ),
      ),
    ),
  );
}

-- ---- orders that pass

-- without targets and countersignatures, an order passes where these four hold
pub plain_passes : (state : State) (layer : ℕ) (does : Act) (by_owner : List ℕ)
    → MayBeGiven (view_of state) (plain layer does by_owner) → LogHasRoom (view_of state) (plain layer does by_owner)
    → RegionHasRoom (view_of state) layer does → IsSigned (view_of state) (plain layer does by_owner)
    → Passes (view_of state) (plain layer does by_owner)
plain_passes state layer does by_owner may log keys signed = passes_by (record {
  targets = All-nil (TargetHoldsIn (view_of state));
  condition = may;
  signature = signed;
  countersignatures = All-nil (IsCountersigned (view_of state) (plain layer does by_owner));
  log = log;
  keys = keys;
})

-- and this is what it comes to
obeys_plain : (state : State) (layer : ℕ) (does : Act) (by_owner : List ℕ) (number size : ℕ)
    → MayBeGiven (view_of state) (plain layer does by_owner) → LogHasRoom (view_of state) (plain layer does by_owner) → RegionHasRoom (view_of state) layer does
    → ((draw : List ℕ) → number_of (entries_of (state_after_order state (plain layer does by_owner) draw).log) ≡ number)
    → ((draw : List ℕ) → length (state_after_order state (plain layer does by_owner) draw).log ≡ size)
    → ObeysOrder state (plain layer does by_owner) number size
obeys_plain state layer does by_owner number size may log keys numbered sized = record {
  passes = plain_passes state layer does by_owner may log keys;
  done = λ text draw spelled passes. is_obeyed (record {
    order = plain layer does by_owner;
    spelled = spelled;
    passes = passes;
    follows = refl;
    answered = sym (ap (λ (n : ℕ). reply.Done n (length (state_after_order state (plain layer does by_owner) draw).log)) (numbered draw) ∙ ap (λ (n : ℕ). reply.Done number n) (sized draw));
  });
}

pub obeys : (signature by_owner : List ℕ) → ObeyedOrders signature by_owner
unfolding number_of uses_of_device_key entry_signed_by state_after_succession state_after_change state_after_new_key state_after_order
obeys signature by_owner = record {
  load_three = obeys_plain (alive signature) 3 (act.Load (seven Always (codes "abc"))) by_owner 5 7 refl (lit≤ tt) tt (λ draw. refl) (λ draw. refl);
  load_one = obeys_plain (alive signature) 1 (act.Load (seven Always (codes "abc"))) by_owner 5 7 refl (lit≤ tt) tt (λ draw. refl) (λ draw. refl);
  surrender = obeys_plain (alive signature) 2 act.Surrender by_owner 5 7 refl (lit≤ tt) tt (λ draw. refl) (λ draw. refl);
  key = obeys_plain (alive signature) 3 (act.NewKey kinds.Epoch) by_owner 4 7 refl (lit≤ tt) (lit< tt) (λ draw. refl) (λ draw. refl);
}

pub leavings : (signature by_owner draw : List ℕ) → LeavingExamples signature by_owner draw
unfolding number_of uses_of_device_key keys_made_by after entry_signed_by state_after_succession state_after_change state_after_new_key state_after_order
leavings signature by_owner draw = record {
  load_three = record { region_two = refl; region_three = refl; layer_two = refl; layer_three = refl; device = refl };
  load_two = record { region_two = refl; region_three = refl; layer_two = refl; layer_three = refl; device = refl };
  load_one = record { region_two = refl; region_three = refl; layer_two = refl; layer_three = refl; device = refl };
  load_one_countersigned = record { region_two = refl; region_three = refl; layer_two = refl; layer_three = refl; device = refl };
  surrender = record { region_two = refl; region_three = refl; layer_two = refl; layer_three = refl; device = refl };
  key = refl;
}

-- ---- logs that are long

pub successions : (signature by_owner : List ℕ) → SuccessionExamples signature by_owner
unfolding number_of uses_of_device_key entry_signed_by state_after_succession state_after_change state_after_order
successions signature by_owner = record {
  load_two = refl;
  load_one = refl;
  earlier = refl;
  needed_two = refl;
  needed_one = refl;
  done_two = obeys_plain (grown key_nearly_used signature) 2 (act.Load (seven Always (codes "abc"))) by_owner 32 34 refl (lit≤ tt) tt (λ draw. refl) (λ draw. refl);
  done_one = obeys_plain (grown key_nearly_used signature) 1 (act.Load (seven Always (codes "abc"))) by_owner 32 33 refl (lit≤ tt) tt (λ draw. refl) (λ draw. refl);
  size = refl;
  no_room = λ signed. inr (
    All-nil (TargetHoldsIn (view_of (grown nearly_full signature))),
    inr (
      refl,
      inr (
        signed,
        inr (
          All-nil (IsCountersigned (view_of (grown nearly_full signature)) (load_of 2 by_owner)),
          inl (refl, λ h. omega (arith, h)),
        ),
      ),
    ),
  );
  room = obeys_plain (grown nearly_full signature) 1 (act.Load (seven Always (codes "abc"))) by_owner 127 128 refl (lit≤ tt) tt (λ draw. refl) (λ draw. refl);
}
