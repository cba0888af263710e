-- The canonical text of a description spells it, wherever some bytes do, exactly where at most 64 brackets are open in it.
use Rattle.std.proofs.Common.{◌≡◌, ℕ, List, sym, ap, subst, ◌∙◌, arith}
use Rattle.lisa_tree.specs.Grammar.{Toks}
use Rattle.lisa_tree.specs.Descriptions.{DescriptionTree}
use Rattle.lisa_tree.specs.DescriptionGrammar.{SpellsDescription}
use Rattle.lisa_tree.specs.Brackets.{IsFlat}
use Rattle.lisa_tree.specs.Tokens.{toks}
use Rattle.lisa_tree.specs.Texts.{SpellsText}
use Rattle.lisa_lexer.proofs.Lexed.{lexes_same}
use Rattle.lisa_printer.specs.CanonicalTokens.{description_tokens}
use Rattle.lisa_printer.specs.CanonicalText.{canonical_text}
use Rattle.lisa_printer.specs.EvenSemantics.{HasEvenSemantics}
use Rattle.lisa_printer.proofs.Heights.{even_of_flat, flat_of_even}
use Rattle.lisa_printer.proofs.DescriptionsAgain.{description_again}
use Rattle.lisa_printer.proofs.TextLexes.{canonical_lexes, lexes_sound}

pub text_spells : (bytes : List ℕ) (d : DescriptionTree) → SpellsText bytes d → IsFlat (description_tokens d) → SpellsText (canonical_text (description_tokens d)) d
text_spells bytes d s flat =
    let h = description_again s.spells (lexes_sound s.lexes) in
    let l = canonical_lexes (description_tokens d) h.replaced.sound in
    record {
      tokens = l.0;
      lexes = l.1;
      flat = subst IsFlat (sym l.2) flat;
      spells = subst (λ (ts : Toks). SpellsDescription ts d) (sym l.2) h.spelled;
      shallow = s.shallow;
    }

pub text_flat : (bytes : List ℕ) (d : DescriptionTree) → SpellsText bytes d → SpellsText (canonical_text (description_tokens d)) d → IsFlat (description_tokens d)
text_flat bytes d s t =
    let h = description_again s.spells (lexes_sound s.lexes) in
    let l = canonical_lexes (description_tokens d) h.replaced.sound in
    subst IsFlat (ap toks (lexes_same t.lexes l.1) ∙ l.2) t.flat

pub even_flat : (bytes : List ℕ) (d : DescriptionTree) (s : SpellsText bytes d) → HasEvenSemantics (toks s.tokens) → IsFlat (description_tokens d)
even_flat bytes d s even =
    let h = (description_again s.spells (lexes_sound s.lexes)).replaced.replaces even in
    flat_of_even h.kept (omega (arith, h.lower, even_of_flat h.even s.flat))
