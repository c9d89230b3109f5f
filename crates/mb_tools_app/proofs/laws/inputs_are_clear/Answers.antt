use Rattle.mb_tools_app.proofs.InputLemmas.{app_clear, assembly_clear, listing_clear, secrets_clear}
use Rattle.mb_tools_app.proofs.laws.inputs_are_clear.Goals as goal

pub returns : goal.returns
returns c = record { app = app_clear; assembly = assembly_clear; listing = listing_clear; secrets = secrets_clear }
