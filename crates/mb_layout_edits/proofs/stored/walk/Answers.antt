use Rattle.std.proofs.Common.{◌∙◌, refl, arith}
use Rattle.std.proofs.lemmas.Result.{err_from_is_err_and}
use Rattle.mb_model.specs.records.RegionFormat.{most_secrets}
use Rattle.mb_model.proofs.RecordFormatLaws.{few_secrets, secrets_exact}
use Rattle.mb_layout_edits.proofs.Walking.{offsets_ascend}
use Rattle.mb_layout_edits.proofs.RegionParts.{region_ok, version_fails, secrets_fail, keys_fail, from_start, ok_from_start, secrets_between}
use Rattle.mb_layout_edits.proofs.stored.walk.Goals as goal

pub returns-in_err-version : goal.returns-in_err-version
returns-in_err-version c =
    let p = err_from_is_err_and c.from_residual.result c.from_residual.ensures.1 in
    let start = c.new-cursor.ensures in
    rw (p.1, p.2) (from_start c.args.bytes.now start.all start.first (version_fails c.in_err-version.ensures))

pub returns-in_err-count : goal.returns-in_err-count
returns-in_err-count c =
    let p = err_from_is_err_and c.from_residual-in_err-count.result c.from_residual-in_err-count.ensures.1 in
    let start = c.new-cursor.ensures in
    rw (p.1, p.2) (from_start c.args.bytes.now start.all start.first (secrets_fail c.in_ok-version.ensures (rw c.most_secrets.ensures at c.in_err-count.ensures)))

pub returns-in_err-keys : goal.returns-in_err-keys
returns-in_err-keys c =
    let p = err_from_is_err_and c.from_residual-in_err-keys.result c.from_residual-in_err-keys.ensures.1 in
    let start = c.new-cursor.ensures in
    let passed = c.in_ok-count.ensures in
    let least = c.least_beside-least.ensures passed.items passed.number in
    rw (p.1, p.2) (from_start c.args.bytes.now start.all start.first (keys_fail c.in_ok-version.ensures (rw c.most_secrets.ensures at passed.reads) (rw least at c.in_err-keys.ensures)))

pub returns : goal.returns
returns c =
    let start = c.new-cursor.ensures in
    let passed = c.in_ok-count.ensures in
    let secrets = rw c.most_secrets.ensures at passed.reads in
    let least = c.least_beside-least.ensures passed.items passed.number in
    let read = region_ok c.in_ok-version.ensures secrets (rw least at c.in_ok-keys.ensures) in
    record {
      version = c.in_ok-version.version;
      region = record { secrets = passed.items; keys = c.in_ok-keys.keys };
      after = c.key_row_at.new.cursor.offset;
      reads = ok_from_start c.args.bytes.now start.all start.first read;
      stands = record {
        secrets = secrets_between (few_secrets c.in_ok-version.version) secrets (c.in_ok-version.ensures.bytes ∙ start.all) c.offset-start.ensures c.offset-end.ensures c.split_at.ensures.back c.split_at-2.ensures.front;
        least = least;
        keys = refl;
      };
    }

pub overflow_sub-end : goal.overflow_sub-end
overflow_sub-end c =
    let few = few_secrets c.in_ok-version.version in
    let exact = secrets_exact (most_secrets c.in_ok-version.version) (omega (arith, few)) in
    let up = offsets_ascend exact (rw c.most_secrets.ensures at c.in_ok-count.ensures.reads) in
    omega (arith, up, c.offset-start.ensures, c.offset-end.ensures)
