use Rattle.mb_model_laws.proofs.ClearTexts as proof
use Rattle.mb_model_lemmas.proofs.OrderLineLemmas as lemmas
use Rattle.mb_model_laws.proofs.texts.order_lines_are_clear.Goals as goal

pub returns : goal.returns
returns c = record {
  order = proof.order_lines;
  statement = proof.statement_lines;
  second = lemmas.order_second;
  second_statement = lemmas.statement_second;
  first = lemmas.order_first;
}
