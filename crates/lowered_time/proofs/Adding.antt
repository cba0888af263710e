-- What is put behind a draft, one after the other.
use Rattle.std.proofs.Common.{◌≡◌, ℕ, ◌+◌, List, ◌++◌, length, append-nil, sym, ap, ◌∙◌, arith}
use Rattle.std.proofs.lemmas.List.{append_assoc, length-append}
use Rattle.step_program.specs.Programs.{Expr, Move}
use Rattle.step_pieces.specs.declared.drafts.Draft.{Draft}
use Rattle.step_pieces.specs.declared.leaves.Leaf.{Leaf}
use Rattle.step_pieces.specs.Pieces.{Piece, Builder, behind, top}
use Rattle.step_pieces.specs.Drafts.{leaf_tree, piece_of}
use Rattle.lowered_time.specs.Pieces.{Maker, nothing, steps, chain, bind}
use Rattle.lowered_time.specs.Code.{Adds, Makes}

behind_assoc : (a b c : Piece) → behind (behind a b) c ≡ behind a (behind b c)
behind_assoc a b c = λ i. record { widths = append_assoc a.widths b.widths c.widths i; moves = append_assoc a.moves b.moves c.moves i }

behind_none : (a : Piece) → behind a (nothing 0) ≡ a
behind_none a = λ i. record { widths = append-nil a.widths i; moves = append-nil a.moves i }

top_behind : (a b : Piece) → top 0 (behind a b) ≡ top 0 a + length b.widths
top_behind a b = omega (arith, length-append a.widths b.widths)

-- one builder's piece behind another's
pub pieces_chain : (f g : Builder) (a b c : Piece) → b ≡ behind a (f (top 0 a)) → c ≡ behind b (g (top 0 b)) → c ≡ behind a (chain f g (top 0 a))
pieces_chain f g a b c is_b is_c =
    is_c
    ∙ ap (λ (d : Piece). behind d (g (top 0 d))) is_b
    ∙ ap (λ (t : ℕ). behind (behind a (f (top 0 a))) (g t)) (top_behind a (f (top 0 a)))
    ∙ behind_assoc a (f (top 0 a)) (g (top 0 a + length (f (top 0 a)).widths))

-- nothing is added
pub adds_nothing : (d : Draft) → Adds nothing d d
adds_nothing d = sym (behind_none (piece_of d))

pub adds_chain : (f g : Builder) (a b c : Draft) → Adds f a b → Adds g b c → Adds (chain f g) a c
adds_chain f g a b c first second = pieces_chain f g (piece_of a) (piece_of b) (piece_of c) first second

-- what is made, and then what uses it
pub adds_bind : (maker : Maker) (user : Expr → Builder) (a b c : Draft) (out : Leaf) → Makes maker a b out → Adds (user (leaf_tree out)) b c → Adds (bind maker user) a c
adds_bind maker user a b c out made used =
    adds_chain (λ from. (maker from).piece) (user (leaf_tree out)) a b c made.added used
    ∙ ap (λ (e : Expr). behind (piece_of a) (behind (maker (top 0 (piece_of a))).piece (user e (top 0 (piece_of a) + length (maker (top 0 (piece_of a))).piece.widths)))) made.is_out

-- steps behind steps
pub adds_steps : (xs ys : List Move) (a b c : Draft) → Adds (steps xs) a b → Adds (steps ys) b c → Adds (steps (xs ++ ys)) a c
adds_steps xs ys a b c first second = adds_chain (steps xs) (steps ys) a b c first second

-- one builder for another that gives the same
pub adds_same : (f g : Builder) (a b : Draft) → ((from : ℕ) → f from ≡ g from) → Adds f a b → Adds g a b
adds_same f g a b same is = is ∙ ap (λ (p : Piece). behind (piece_of a) p) (same (top 0 (piece_of a)))

chain_assoc : (f g h : Builder) (from : ℕ) → chain (chain f g) h from ≡ chain f (chain g h) from
chain_assoc f g h from =
    let first = f from in
    let second = g (from + length first.widths) in
    let places : from + length (first.widths ++ second.widths) ≡ from + length first.widths + length second.widths = omega (arith, length-append first.widths second.widths) in
    ap (λ (t : ℕ). behind (behind first second) (h t)) places
    ∙ behind_assoc first second (h (from + length first.widths + length second.widths))

-- a third one behind the first two
pub adds_three : (f g h : Builder) (a b c : Draft) → Adds (chain f g) a b → Adds h b c → Adds (chain f (chain g h)) a c
adds_three f g h a b c first second = adds_same (chain (chain f g) h) (chain f (chain g h)) a c (chain_assoc f g h) (adds_chain (chain f g) h a b c first second)
