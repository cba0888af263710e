-- A fault that tells what is found first.
use Rattle.std.proofs.Common.{◌≡◌, ℕ, List, Option, None, sym, ap, subst}
use Rattle.std.specs.Prelude.{Result, Ok, Err, IfErr}
use Rattle.std.specs.Result.{IsErr, IsErrAnd}
use Rattle.std.specs.Option.{option_or}
use Rattle.verilog_text.specs.declared.faults.VerilogFault.{VerilogFault}
use Rattle.verilog_text.specs.declared.faults.VerilogFault.TheVariants as faults
use Rattle.verilog_size_checks.specs.Sought.{TellsIndex, TellsDriver, TellsCount}

pub index_front : (a b : Option (List ℕ × ℕ × ℕ)) (fault : VerilogFault) → TellsIndex a fault → TellsIndex (option_or a b) fault
index_front a b (faults.IndexWidth name width needed) tells = ap (λ (o : Option (List ℕ × ℕ × ℕ)). option_or o b) tells
index_front a b faults.NoMemory tells = tt
index_front a b _ tells = absurd tells

pub index_back : (a b : Option (List ℕ × ℕ × ℕ)) (fault : VerilogFault) → a ≡ None → TellsIndex b fault → TellsIndex (option_or a b) fault
index_back a b fault none tells = subst (λ (o : Option (List ℕ × ℕ × ℕ)). TellsIndex o fault) (ap (λ (o : Option (List ℕ × ℕ × ℕ)). option_or o b) (sym none)) tells

pub driver_front : (a b : Option (List ℕ)) (fault : VerilogFault) → TellsDriver a fault → TellsDriver (option_or a b) fault
driver_front a b (faults.TwoDrivers name) tells = ap (λ (o : Option (List ℕ)). option_or o b) tells
driver_front a b faults.NoMemory tells = tt
driver_front a b _ tells = absurd tells

pub driver_back : (a b : Option (List ℕ)) (fault : VerilogFault) → a ≡ None → TellsDriver b fault → TellsDriver (option_or a b) fault
driver_back a b fault none tells = subst (λ (o : Option (List ℕ)). TellsDriver o fault) (ap (λ (o : Option (List ℕ)). option_or o b) (sym none)) tells

pub count_front : (a b : Option (List ℕ × ℕ × ℕ)) (fault : VerilogFault) → TellsCount a fault → TellsCount (option_or a b) fault
count_front a b (faults.TooMany what count limit) tells = ap (λ (o : Option (List ℕ × ℕ × ℕ)). option_or o b) tells
count_front a b faults.NoMemory tells = tt
count_front a b _ tells = absurd tells

pub count_back : (a b : Option (List ℕ × ℕ × ℕ)) (fault : VerilogFault) → a ≡ None → TellsCount b fault → TellsCount (option_or a b) fault
count_back a b fault none tells = subst (λ (o : Option (List ℕ × ℕ × ℕ)). TellsCount o fault) (ap (λ (o : Option (List ℕ × ℕ × ℕ)). option_or o b) (sym none)) tells

-- a fault that `?` has passed on
pub passed : {T E : Type 0} (r : Result T E) (P : E → Type 0) (old : E) → IsErr r × IsErrAnd r (λ e. e ≡ old) → P old → IfErr r P
passed (Ok x) P old is told = tt
passed (Err e) P old is told = subst P (sym is.1) told
