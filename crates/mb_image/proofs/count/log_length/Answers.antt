use Rattle.std.proofs.Common.{arith, refl}
use Rattle.mb_format.specs.Format.{IsBytes}
use Rattle.mb_model_lemmas.proofs.FaultLemmas.{image_bbram_bytes}
use Rattle.mb_image.proofs.Lengths.{halves_mean, blank_counts, rootless_counts, live_counts}
use Rattle.mb_model_lemmas.proofs.PublicLemmas.{bounded_by}
use Rattle.mb_image.proofs.count.log_length.Goals as goal

pub count_entries-requires-clause-area : goal.count_entries-requires-clause-area
count_entries-requires-clause-area c = (bounded_by c.in-Some-root_of.root c.in-Some-root_of.ensures.holds.spelled.allowed).area

pub returns-then-is_blank : goal.returns-then-is_blank
returns-then-is_blank c = λ flash bbram state is stands.
    blank_counts c.in-Some.flash.now c.in-Some.bbram.now state (c.if-is_blank.ensures.0 refl) (halves_mean c.args.image.now _ _ flash bbram state c.in-Some.ensures is stands)

pub returns-in_default-root_of : goal.returns-in_default-root_of
returns-in_default-root_of c = λ flash bbram state is stands.
    rootless_counts c.in-Some.flash.now c.in-Some.bbram.now state c.in_default-root_of.ensures (halves_mean c.args.image.now _ _ flash bbram state c.in-Some.ensures is stands)

pub returns : goal.returns
returns c = λ flash bbram state is stands.
    let are : IsBytes c.args.image.now = λ i. omega (arith, c.type_inv.image i) in
    live_counts c.in-Some.flash.now c.in-Some.bbram.now state c.in-Some-root_of.root c.count_entries.result (image_bbram_bytes c.args.image.now _ _ are c.in-Some.ensures) c.in-Some-root_of.ensures
    c.count_entries.ensures (halves_mean c.args.image.now _ _ flash bbram state c.in-Some.ensures is stands)
