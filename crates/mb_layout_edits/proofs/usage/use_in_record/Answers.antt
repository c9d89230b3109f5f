use Rattle.std.proofs.Common.{sym, ap, ◌∙◌, find, arith}
use Rattle.mb_model.specs.machine.LayerEvents.{has_number, with_use}
use Rattle.mb_layout_edits.specs.Edits.{region_with_use}
use Rattle.mb_layout_edits.proofs.RegionParts.{uses_fit}
use Rattle.mb_layout_edits.proofs.usage.use_in_record.Goals as goal

pub returns-then-key-clause-used : goal.returns-then-key-clause-used
returns-then-key-clause-used c = λ region h. (
    let stands = c.in-Some.ensures region h in
    record {
      key = c.in-Some-key_of.key;
      found = ap (find (has_number c.args.number)) (sym (c.as_slice.ensures.keys ∙ stands.keys)) ∙ sym c.in-Some-key_of.ensures;
      spent = omega arith;
    })

pub returns-clause-used : goal.returns-clause-used
returns-clause-used c = λ region h. (
    let stands = c.in-Some.ensures region h in
    let same = c.as_slice-2.ensures.keys ∙ stands.keys in
    let fit = rw (← same) at (uses_fit region h) in
    record {
      found = ap (find (has_number c.args.number)) (sym (c.as_slice.ensures.keys ∙ stands.keys)) ∙ sym c.in-Some-key_of.ensures;
      left = omega arith;
      stored = λ can. c.store.ensures.stored (region_with_use c.args.number region) (record {
        secrets = stands.secrets;
        least = stands.least;
        keys = c.used_keys.ensures fit ∙ ap (with_use c.args.number) same;
      }) can;
    })

pub returns-clause-capacity : goal.returns-clause-capacity
returns-clause-capacity c = λ region h can. (
    let stands = c.in-Some.ensures region h in
    let same = c.as_slice-2.ensures.keys ∙ stands.keys in
    let fit = rw (← same) at (uses_fit region h) in
    let more = c.store.ensures.capacity (region_with_use c.args.number region) (record {
      secrets = stands.secrets;
      least = stands.least;
      keys = c.used_keys.ensures fit ∙ ap (with_use c.args.number) same;
    }) can in
    omega (arith, more, c.clear.ensures.capacity))

pub returns-in_default-clause-used : goal.returns-in_default-clause-used
returns-in_default-clause-used c = λ region h. absurd (c.in_default.ensures region h)

pub returns-in_default-key_of-clause-used : goal.returns-in_default-key_of-clause-used
returns-in_default-key_of-clause-used c = λ region h. (
    let stands = c.in-Some.ensures region h in
    ap (find (has_number c.args.number)) (sym (c.as_slice.ensures.keys ∙ stands.keys)) ∙ sym c.in_default-key_of.ensures)
