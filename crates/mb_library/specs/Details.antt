-- What a call tells beside its code. Where is a chain wrong that is refused?
use Rattle.std.specs.Prelude.{ℕ}
use Rattle.mb_model.specs.chains.Acceptance.{ChainRefusal, bad_form, bad_signature, bad_order, breaks_rules}
use Rattle.mb_model.specs.chains.Acceptance.{key_unknown, bad_statement, wrong_number, key_ended}
use Rattle.mb_verifier.specs.declared.refusal.ChainRefusal.{ChainRefusal as VerifierEnd}
use Rattle.mb_verifier.specs.declared.refusal.ChainRefusal.TheVariants as why
use Rattle.mb_library.specs.declared.details.Details.{Details}

-- nothing is told
abbrev pub no_details : Details
no_details = record {
  listing = 0;
  offset = 0;
  entry = 0;
  named = 0;
  last = 0;
  line = 0;
  configuration = 0;
}

-- the place that a refusal of a chain names
abbrev pub refusal_details : ChainRefusal → Details
refusal_details (bad_form offset) = record no_details { offset = offset }
refusal_details (bad_signature index) = record no_details { entry = index }
refusal_details (bad_order index) = record no_details { entry = index }
refusal_details (breaks_rules index) = record no_details { entry = index }
refusal_details key_unknown = no_details
refusal_details bad_statement = no_details
refusal_details (wrong_number named last) = record no_details { named = named; last = last }
refusal_details key_ended = no_details

-- ---- what the verifier gives: a refusal, or a failed allocation

abbrev pub end_code : VerifierEnd → ℕ
end_code (why.Form at) = 20
end_code (why.Signature entry) = 21
end_code (why.Order entry) = 22
end_code (why.Rules entry) = 23
end_code why.KeyUnknown = 24
end_code why.StatementSignature = 25
end_code (why.StatementNumber named last) = 26
end_code why.NotAlive = 27
end_code why.NoMemory = 4

abbrev pub end_details : VerifierEnd → Details
end_details (why.Form at) = record no_details { offset = at }
end_details (why.Signature entry) = record no_details { entry = entry }
end_details (why.Order entry) = record no_details { entry = entry }
end_details (why.Rules entry) = record no_details { entry = entry }
end_details why.KeyUnknown = no_details
end_details why.StatementSignature = no_details
end_details (why.StatementNumber named last) = record no_details { named = named; last = last }
end_details why.NotAlive = no_details
end_details why.NoMemory = no_details
