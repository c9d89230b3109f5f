use Rattle.mb_bytes.proofs.Exactly.{is_read}
use Rattle.mb_bytes.proofs.field.read_field.Goals as goal

pub returns : goal.returns
returns g c = is_read g.met.F.Field.exact c.in_ok-value.ensures
