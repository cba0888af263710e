-- Pieces of a module's tokens: what stands in them fits, and they leave no bracket open.
use Rattle.std.proofs.Common.{◌≡◌, ℕ, suc, ◌+◌, ◌≤◌, [], ◌∷◌, ◌++◌, sym, ap, subst, arith}
use Rattle.verilog_text.specs.Tokens.{VTok, VToks}
use Rattle.verilog_text.specs.Spelling.{open_after, most_open}
use Rattle.verilog_text.proofs.TokenContents.{HasText, Have}
use Rattle.verilog_text.proofs.OpenBrackets.{IsEven, IsNeutral, most_open-append, even_append, even_token, even_nil, even_closed}

pub record IsPiece (k : ℕ) (ts : VToks) : Type 0 where
  pub have : Have ts
  pub even : IsEven ts
  pub low : (n : ℕ) → most_open n ts ≤ n + k

pub have_append : (xs ys : VToks) → Have xs → Have ys → Have (xs ++ ys)
have_append [] ys g h = h
have_append (t ∷ xs) ys g h = (g.0, have_append xs ys g.1 h)

pub piece_nil : (k : ℕ) → IsPiece k []
piece_nil k = record { have = tt; even = even_nil; low = λ n. omega arith }

pub piece_append : {k : ℕ} {xs ys : VToks} → IsPiece k xs → IsPiece k ys → IsPiece k (xs ++ ys)
piece_append {xs = xs} {ys = ys} g h = record {
  have = have_append xs ys g.have h.have;
  even = even_append xs ys g.even h.even;
  low = λ n. omega (arith, most_open-append n xs ys, g.low n, h.low n, ap (λ (j : ℕ). most_open j ys) (g.even.same n));
}

-- a token that is no bracket, in front
pub piece_token : {k : ℕ} (t : VTok) {ts : VToks} → IsNeutral t → HasText t → IsPiece k ts → IsPiece k (t ∷ ts)
piece_token t {ts = ts} same has h = record {
  have = (has, h.have);
  even = even_token t ts same h.even;
  low = λ n. omega (arith, h.low n, ap (λ (j : ℕ). most_open j ts) (same n));
}

-- a piece between brackets, in front
pub piece_closed : {k : ℕ} (o c : VTok) {xs ys : VToks} → ((n : ℕ) → open_after n o ≡ suc n) → ((n : ℕ) → open_after (suc n) c ≡ n) → HasText o → HasText c → IsPiece k xs → IsPiece (suc k) ys
    → IsPiece (suc k) (o ∷ (xs ++ (c ∷ ys)))
piece_closed {k = k} o c {xs = xs} {ys = ys} opens closes has_o has_c g h = record {
  have = (has_o, have_append xs (c ∷ ys) g.have (has_c, h.have));
  even = even_closed o c xs ys opens closes g.even h.even;
  low = λ n. omega (
    arith,
    ap (λ (j : ℕ). most_open j (xs ++ (c ∷ ys))) (opens n),
    most_open-append (suc n) xs (c ∷ ys),
    g.low (suc n),
    ap (λ (j : ℕ). most_open j (c ∷ ys)) (g.even.same (suc n)),
    ap (λ (j : ℕ). most_open j ys) (closes n),
    h.low n,
  );
}

pub piece_more : {k : ℕ} {ts : VToks} → IsPiece k ts → IsPiece (suc k) ts
piece_more h = record { have = h.have; even = h.even; low = λ n. omega (arith, h.low n) }

pub piece_same : {k : ℕ} {xs ys : VToks} → xs ≡ ys → IsPiece k ys → IsPiece k xs
piece_same {k = k} e h = subst (IsPiece k) (sym e) h
