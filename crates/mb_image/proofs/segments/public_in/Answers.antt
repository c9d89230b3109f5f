use Rattle.std.proofs.Common.{sym, ◌∙◌, arith, true≢false}
use Rattle.mb_format.specs.Format.{IsBytes}
use Rattle.mb_segments.specs.Uncopied.{header_of}
use Rattle.mb_image.proofs.Sectors.{none_begun, none_counted, none_unsigned, none_signed, all_held}
use Rattle.mb_image.proofs.segments.public_in.Goals as goal

pub returns-in_default : goal.returns-in_default
returns-in_default c = none_begun c.args.flash.now c.args.root.now c.in_default.ensures.found

pub returns-then-not-are_counted : goal.returns-then-not-are_counted
returns-then-not-are_counted c =
    let are : IsBytes c.args.flash.now = λ i. omega (arith, c.type_inv.flash i) in
    none_counted c.args.flash.now c.args.root.now (header_of c.in-Some.header) are c.in-Some.ensures.found
    (λ counted can. true≢false (sym (c.are_counted.ensures.1 (c.text_count.ensures ∙ counted, can)) ∙ c.if-not-are_counted.true))

pub returns-in_default-2 : goal.returns-in_default-2
returns-in_default-2 c =
    let are : IsBytes c.args.flash.now = λ i. omega (arith, c.type_inv.flash i) in
    none_unsigned c.args.flash.now c.args.root.now (header_of c.in-Some.header) are c.in-Some.ensures.found (rw c.in_default-2.is at c.in_ok-unsigned.ensures)

pub returns-in_default-3 : goal.returns-in_default-3
returns-in_default-3 c =
    let are : IsBytes c.args.flash.now = λ i. omega (arith, c.type_inv.flash i) in
    none_signed c.args.flash.now c.args.root.now (header_of c.in-Some.header) are c.in-Some.ensures.found (rw c.in_default-3.is at c.in_ok-signed.ensures)

pub returns : goal.returns
returns c =
    let are : IsBytes c.args.flash.now = λ i. omega (arith, c.type_inv.flash i) in
    let counted = c.are_counted.ensures.0 c.if-not-are_counted.false in
    all_held c.args.flash.now c.args.root.now (header_of c.in-Some.header) are c.in-Some.ensures.found c.in_ok-codes.codes c.in-Some-3.signed c.in-Some-2.unsigned
    c.in_ok-codes.ensures.one c.in_ok-codes.ensures.two c.in_ok-codes.ensures.three
    (rw c.in-Some-3.is at c.in_ok-signed.ensures) (rw c.in-Some-2.is at c.in_ok-unsigned.ensures)
    (sym c.text_count.ensures ∙ counted.0) counted.1
