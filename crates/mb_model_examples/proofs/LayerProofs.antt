-- The examples of what layers do, computed.
use Rattle.std.proofs.Common.{ℕ, List, [], inl, refl}
use Rattle.std.specs.Prelude.{codes}
use Rattle.mb_model.specs.declared.event.Event.TheVariants as event
use Rattle.mb_model.specs.declared.reply.Reply.TheVariants as reply
use Rattle.mb_model.specs.owners.Log.{number_of}
use Rattle.mb_model.specs.machine.LayerEvents.{with_secret, with_use, put_event, get_event, drop_event, sign_event}
use Rattle.mb_model.specs.machine.Machine.{off, ratchet}
use Rattle.mb_model_examples.specs.Device.{after_uses, alive}
use Rattle.mb_model_examples.specs.StepExamples.{armed_at}
use Rattle.mb_model_examples.specs.LayerExamples.{PutExamples, GetExamples, stated, with_seal, SignExamples, ClosedExamples, StoppedExamples}
use Rattle.mb_model_examples.proofs.StepProofs.{stops_between}

pub puts : (signature : List ℕ) → PutExamples signature
unfolding number_of with_secret put_event
puts signature = record { replaced = refl; new = refl; above = refl; seventeenth = refl; full = refl; full_replaced = refl }

pub gets : (signature : List ℕ) → GetExamples signature
unfolding get_event drop_event
gets signature = record { found = refl; absent = refl; of_another_region = refl; dropped = refl; not_dropped = refl }

pub signs : (message signature : List ℕ) → SignExamples message signature
unfolding with_use sign_event
signs message signature = record { first = refl; last = refl; spent = refl; unknown = refl; of_another_region = refl }

pub closed : (signature : List ℕ) → ClosedExamples signature
closed signature = record {
  past = record {
    put = λ name value. refl;
    get = λ name. refl;
    drop = λ name. refl;
    sign = λ key message. refl;
    call = λ key input. (_, inl (refl, refl), refl, refl);
  };
  doubted = record {
    put = λ name value. refl;
    get = λ name. refl;
    drop = λ name. refl;
    sign = λ key message. refl;
    call = λ key input. (_, inl (refl, refl), refl, refl);
  };
  over_doubted = record {
    put = λ name value. refl;
    get = λ name. refl;
    drop = λ name. refl;
    sign = λ key message. refl;
    call = λ key input. (_, inl (refl, refl), refl, refl);
  };
}

pub stopped : (signature : List ℕ) → StoppedExamples signature
unfolding number_of with_secret put_event with_use sign_event
stopped signature = record {
  put =
      stops_between (armed_at (ratchet 2) (alive signature)) (event.Put 2 (codes "seal") []) reply.Kept (armed_at (ratchet 2) (with_seal signature))
      (alive signature) (with_seal signature) tt refl refl refl refl refl;
  sign = λ message.
      stops_between (armed_at (ratchet 3) (after_uses 0 signature)) (event.Sign 3 1 message) (reply.Signed 1 0 (stated 0 message signature)) (armed_at (ratchet 3) (after_uses 1 signature))
      (after_uses 0 signature) (after_uses 1 signature) tt refl refl refl refl refl;
  boot =
      stops_between (armed_at off (alive signature)) event.Boot reply.Booted (armed_at (ratchet 1) (alive signature))
      (alive signature) (alive signature) tt refl refl refl refl refl;
}
