use Rattle.std.proofs.Common.{◌≡◌, ◌++◌, [], ◌∷◌, ap, ◌∙◌, arith}
use Rattle.std.proofs.lemmas.List.{map_push}
use Rattle.planus_syntax.specs.Tokens.{piece_of, pieces_of}
use Rattle.planus_syntax.specs.Lexing.{with_front, lex_of}
use Rattle.planus_syntax.specs.Cutting.{cut_piece}
use Rattle.planus_syntax.proofs.Placed.{read_more}
use Rattle.planus_syntax.proofs.lexer.lex.Goals as goal

pub loop-rest-preserved-in_ok-push-in-Ok : goal.loop-rest-preserved-in_ok-push-in-Ok
loop-rest-preserved-in_ok-push-in-Ok c =
    let e : pieces_of c.push.new.self.items ≡ pieces_of c.loop-rest.tokens.items ++ cut_piece c.in-Some.token ∷ [] =
    rw c.in_ok-push-in-Ok.ensures.items (map_push piece_of c.loop-rest.tokens.items c.in_ok-token-in-Ok.token)
    ∙ ap (λ p. pieces_of c.loop-rest.tokens.items ++ p ∷ []) c.in_ok-token-in-Ok.ensures in
    let l : lex_of c.loop-rest.rest.now ≡ with_front (cut_piece c.in-Some.token ∷ []) (lex_of c.in-Ok.after.now) = rw c.in-Some.is at c.in-Ok.ensures.cuts in
    record {
      read = ap (λ ps. with_front ps (lex_of c.in-Ok.after.now)) e
          ∙ read_more (pieces_of c.loop-rest.tokens.items) (cut_piece c.in-Some.token) c.args.text.now c.loop-rest.rest.now c.in-Ok.after.now l c.loop-rest.invariant.read;
      shorter = omega (arith, c.in-Ok.ensures.shorter, c.loop-rest.invariant.shorter);
    }
