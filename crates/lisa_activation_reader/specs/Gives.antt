-- What the readers of items answer.
use Rattle.std.specs.Prelude.{List, Option, Some}
use Rattle.std.specs.Borrow.{Bor}
use Rattle.std.specs.Global.{Vec}
use Rattle.lisa_tree.specs.declared.tokens.Token.{Token}
use Rattle.lisa_tree.specs.declared.descriptions.Act.{Act}
use Rattle.lisa_tree.specs.Activations.{ActTree, ActTrees, End, Then, act_tree, act_trees}
use Rattle.lisa_tree.specs.Grammar.{Toks}
use Rattle.lisa_tree.specs.Tokens.{toks}
use Rattle.lisa_words.specs.Steps.{◌>>=◌}

abbrev pub seen_act : Act × Bor (List Token) → ActTree × Toks
seen_act x = (act_tree x.0, toks x.1.now)

abbrev pub seen_acts : Vec Act × Bor (List Token) → ActTrees × Toks
seen_acts x = (act_trees x.0.items, toks x.1.now)

-- one list of items behind another
abbrev pub glue : ActTrees → ActTrees → ActTrees
glue End more = more
glue (Then a all) more = Then a (glue all more)

-- what was read before, and what is still read
abbrev pub with_front : ActTrees → Option (ActTrees × Toks) → Option (ActTrees × Toks)
with_front front read = read >>= λ x. Some (glue front x.0, x.1)
