use Rattle.std.proofs.Common.{List, ℕ, subst}
use Rattle.std.specs.Prelude.{IfSome}
use Rattle.mb_model.specs.memories.Migration.{IsMigrated, MeansTheSame, CannotMigrate}
use Rattle.mb_image.specs.Ends.{fault_of}
use Rattle.mb_tools.proofs.MigrateLemmas.{old_image_stops}
use Rattle.mb_tools.proofs.input.devices.read_old_image.Goals as goal

pub returns-in-Ok-clause-read : goal.returns-in-Ok-clause-read
returns-in-Ok-clause-read g c = record {
  bytes = c.in_ok-bytes.bytes.items;
  read = c.in_ok-bytes.ensures.read;
  is = (
    subst (λ (b : List ℕ). IsMigrated b c.in-Ok.image.items) c.deref.ensures.value c.in-Ok.ensures.migrated,
    subst (λ (b : List ℕ). MeansTheSame b c.in-Ok.image.items) c.deref.ensures.value c.in-Ok.ensures.kept,
  );
  now_is = c.in_ok-bytes.ensures.counted;
}

pub returns-clause-err : goal.returns-clause-err
returns-clause-err g c =
    let outside = g.H.Host.outside in
    let fault = subst (λ (b : List ℕ). IfSome (fault_of c.in-Err.end) (CannotMigrate b)) c.deref.ensures.value c.in-Err.ensures.fault in
    old_image_stops c.args.name.now c.in_ok-bytes.bytes.items (outside c.args.host.now) (outside c.read_input.new.host) (fault_of c.in-Err.end) c.end_of_image.result
    c.in_ok-bytes.ensures.read c.in_ok-bytes.ensures.counted fault c.end_of_image.ensures
