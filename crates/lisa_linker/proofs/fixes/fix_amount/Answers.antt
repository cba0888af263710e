use Rattle.std.proofs.Common.{◌<◌, ◌*◌, ◌%◌, ◌^◌, ℕ, sym, subst, arith}
use Rattle.lisa_words.proofs.WordLaws.{reduced-lt}
use Rattle.lisa_linker.proofs.FixBits.{amount_fits}
use Rattle.lisa_linker.proofs.fixes.fix_amount.Goals as goal

pub overflow_mul-result : goal.overflow_mul-result
overflow_mul-result c =
    let P : ℕ → Type 0 = λ v. v < 2 ^ c.args.width in
    let small : c.bits_of.result < 2 ^ c.args.width = subst P (sym c.bits_of.ensures) (reduced-lt _ c.args.width) in
    let fits : c.bits_of.result * (1 * 2 ^ c.args.lsb % 18446744073709551616) < 2 ^ 64 = amount_fits c.bits_of.result c.args.lsb c.args.width small c.requires.some c.requires.most in
    omega (arith, fits)
