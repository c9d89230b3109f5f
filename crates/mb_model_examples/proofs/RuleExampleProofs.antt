-- The examples, computed.
use Rattle.std.proofs.Common.{ℕ, List, refl, arith}
use Rattle.mb_model.specs.owners.Rules.{after}
use Rattle.mb_model_examples.specs.RuleExamples.{AuthorityExamples, TargetExamples, StandingExamples, AdmissionExamples, ConditionExamples, AfterExamples, LogExamples, LifeExamples}
use Rattle.mb_model.specs.owners.Log.{number_of, last_of, layers_of, device_of, uses_of_device_key, keys_made_by}
use Rattle.mb_model.specs.owners.Lives.{splits, lives_of}

pub admission : AdmissionExamples
admission = record {
  always = refl;
  never = refl;
  countersigned = refl;
  not_countersigned = refl;
  countersigned_by_another = refl;
  emergency_beneath = refl;
  trusts_one = refl;
  distrusts_two = refl;
  distrusts_one = refl;
  trusts_two = refl;
  own_load = refl;
  own_emergency = refl;
  surrender_beneath = refl;
  establish_beneath = refl;
}

pub conditions : ConditionExamples
conditions = record {
  establish = refl;
  establish_owned = refl;
  establish_over_unowned = refl;
  establish_one = refl;
  surrender = refl;
  surrender_unowned = refl;
  surrender_one = refl;
  load_one = refl;
  load_unreliable = refl;
  emergency = refl;
  emergency_unowned = refl;
  emergency_one = refl;
  new_key = refl;
  new_key_unreliable = refl;
  new_key_one = refl;
  new_key_not_runnable = refl;
}

pub changes : AfterExamples
unfolding after
changes = record {
  establish = refl;
  surrender = refl;
  load = λ code. refl;
  load_countersigned = λ code. refl;
  emergency = λ code. refl;
}

pub log : LogExamples
unfolding number_of last_of layers_of device_of uses_of_device_key keys_made_by
log = record { number = refl; layers = refl; device = refl; used = refl; made = refl }

pub lives : LifeExamples
unfolding splits lives_of layers_of last_of
lives = record {
  epoch_key = refl;
  unknown_key = refl;
  device_key = refl;
  configuration_key = refl;
  configuration_key_ended = refl;
  epoch_key_ended = refl;
}

pub authorities : AuthorityExamples
authorities = record { establish = refl; surrender = refl; load = refl; emergency = refl; new_key = refl; over_unowned = refl }

pub targets : (serial : List ℕ) → TargetExamples serial
targets serial = record {
  same_serial = refl;
  length = refl;
  other_length = λ e. omega (arith, e);
  owner = refl;
  unowned_layer = λ hash h. h;
  code = refl;
  no_code = λ hash h. h;
}

pub standings : StandingExamples
standings = record { one = refl; two = refl; three = refl; unowned_layer = refl }
