-- The numbers of the code that definitions cite. Is a limit of the machine another than the one that is believed?
use Rattle.std.specs.Prelude.{◌≡◌}
use Rattle.mb_model.specs.declared.limits.TheConstants.{STACK_LIMIT, CALL_LIMIT, MEMORY_LENGTH, OUTPUT_LIMIT}
use Rattle.mb_model.specs.declared.limits.TheConstants.{CALL_STEPS, INPUT_LIMIT}

-- limits of the application machine, and of calls
pub record ApplicationNumbersAre : Type 0 where
  pub stack_limit : STACK_LIMIT ≡ 256
  pub call_limit : CALL_LIMIT ≡ 64
  pub memory_length : MEMORY_LENGTH ≡ 1024
  pub output_limit : OUTPUT_LIMIT ≡ 4096
  pub call_steps : CALL_STEPS ≡ 1000000
  pub input_limit : INPUT_LIMIT ≡ 4096
