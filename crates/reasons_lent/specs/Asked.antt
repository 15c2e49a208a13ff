-- Document 02, A3: the reason that is given for an edit of a lent record, as the code has it. Assumes nothing.
use Rattle.reasons.specs.Reasons.{Reason, must_by, never_by}
use Rattle.reasons_lent.specs.declared.Reason as declared
use Rattle.reasons_lent.specs.declared.Reason.TheVariants.{Must, Never}

-- the reason that the code gives
abbrev pub reason_told : declared.Reason → Reason
reason_told (Must chain) = must_by chain.items
reason_told (Never chain ring) = never_by chain.items ring.items
