-- Counts one after another.
use Rattle.std.proofs.Common.{◌≡◌, ℕ, List, Option, None, sym, ap, subst, ◌∙◌}
use Rattle.std.specs.Option.{option_or}
use Rattle.verilog_text.specs.declared.faults.VerilogFault.{VerilogFault}
use Rattle.verilog_text.specs.Conditions.{AtMost}
use Rattle.verilog_size_checks.specs.Sought.{count_fault, TellsCount}
use Rattle.verilog_size_checks.proofs.TellingLaws.{count_front, count_back}

-- a count that has been checked, and what is told behind it
pub checked : (what : List ℕ) (count n limit : ℕ) (rest : Option (List ℕ × ℕ × ℕ)) (fault : VerilogFault) → count ≡ n → count_fault (AtMost what count limit) ≡ None → TellsCount rest fault
    → TellsCount (option_or (count_fault (AtMost what n limit)) rest) fault
checked what count n limit rest fault is none tells = count_back (count_fault (AtMost what n limit)) rest fault (ap (λ (k : ℕ). count_fault (AtMost what k limit)) (sym is) ∙ none) tells

-- what is told of a count
pub excess : (what : List ℕ) (count n limit : ℕ) (rest : Option (List ℕ × ℕ × ℕ)) (fault : VerilogFault) → count ≡ n → TellsCount (count_fault (AtMost what count limit)) fault
    → TellsCount (option_or (count_fault (AtMost what n limit)) rest) fault
excess what count n limit rest fault is tells =
    count_front (count_fault (AtMost what n limit)) rest fault (subst (λ (k : ℕ). TellsCount (count_fault (AtMost what k limit)) fault) is tells)
