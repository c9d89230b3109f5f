use Rattle.mb_model_runs.proofs.OfficerLemmas as lemmas
use Rattle.mb_model_runs.proofs.officers.tools_make_right_orders.Goals as goal

pub returns : goal.returns
returns c = record {
  signed = lemmas.signed_order_passes;
  stays = lemmas.countersigned_stays_signed;
  countersigned = lemmas.countersigned_order_passes;
}
