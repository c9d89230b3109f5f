-- The examples of the generated workload, computed.
use Rattle.std.proofs.Common.{◌≡◌, [], ◌∷◌, refl}
use Rattle.rand_core.specs.Steps.{first_words, u32_at}
use Rattle.rand_chacha.specs.Block.{quarter_round, column_round, diagonal_round, double_rounds, block_word}
use Rattle.mb_model.specs.chains.Script.{with_before}
use Rattle.mb_model_commands.specs.Workload.{generator_words, signed_orders, workload_lines}
use Rattle.mb_model_examples.specs.WorkloadExamples.{WorkloadExamples}

words : generator_words 0 2 ≡ 0xADE0B876 ∷ 0x903DF1A0 ∷ []
unfolding generator_words first_words u32_at quarter_round column_round diagonal_round double_rounds block_word
words = refl

pub workload : WorkloadExamples
unfolding with_before signed_orders workload_lines
workload = record {
  words = words;
  first_round = λ code. refl;
  second_round = λ code. refl;
  third_round = λ code. refl;
  by_one = λ drawn. refl;
  by_two = λ drawn. refl;
  by_three = λ drawn. refl;
  events = λ drawn. refl;
  first_name = refl;
  later_name = refl;
  same_name = refl;
}
