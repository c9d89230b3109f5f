use Rattle.mb_model_examples.proofs.CallExampleProofs as lemmas
use Rattle.mb_model_examples.proofs.events.call_examples.Goals as goal

pub returns : goal.returns
returns c = record {
  code = lemmas.code_examples;
  actions = lemmas.actions;
  demands = lemmas.demands;
  calls = lemmas.calls;
  sealed = lemmas.sealed;
  stopped = lemmas.stopped_calls;
}
