-- What follows a tag is a suffix of its source.
use Rattle.std.proofs.Common.{◌≡◌, Bool, true, false, [], ◌∷◌, ◌++◌, Option, Some, sym, subst, ◌∙◌, append_assoc, codes, inl, inr}
use Rattle.std.specs.List.{prefix_len}
use Rattle.std.proofs.lemmas.Option.{same_Some}
use Rattle.handlebars_base.specs.Bytes.{Text, right_brace, after_white, is_symbol}
use Rattle.handlebars_base.specs.Optional.{◌>>=◌}
use Rattle.handlebars_base.proofs.OptionBinds.{bind_some, with_or_is}
use Rattle.handlebars_base.specs.Texts.{IsSuffix, after_byte}
use Rattle.handlebars_base.proofs.Ends.{end-all, end-after, end-after_byte, end-white, end-drop}
use Rattle.handlebars_expressions.specs.Parameter.{spelled_items}
use Rattle.handlebars_expressions.specs.Expression.{NameMode, spelled_name, Expression, Enclosure, IsExpression, tilde}
use Rattle.handlebars_expressions.proofs.CloseNames.{close_name-whole}
use Rattle.handlebars_expressions.specs.Binding.{BoundNames, bar, IsBinding, is_unbound, is_bound, spelled_names}
use Rattle.handlebars_lexer.specs.Kind.{TagKind, escaped_kind, html_kind, html_sign_kind, block_kind, close_kind, inverse_kind, else_kind, raw_kind, raw_close_kind, decorator_kind, decorator_block_kind, partial_kind, partial_block_kind, comment_kind, after_text, tilde_at, close_by, brace_tilde_braces, three_close, closing_of}
use Rattle.handlebars_lexer.specs.Comment.{IsComment, long, compact}
use Rattle.handlebars_expressions.specs.CloseName.{close_name_at}
use Rattle.handlebars_lexer.specs.Tag.{Tag, BlockExpression, IsBlockExpression, Says}
use Rattle.handlebars_lexer.specs.TagView.{IsClosed}
use Rattle.handlebars_lexer.proofs.Beginnings.{end-after_text, end-tilde}
use Rattle.handlebars_lexer.proofs.Insides.{said}

-- ---- what closes a tag

end-close_by : (mark t : Text) (p : Bool × Text) → close_by mark t ≡ Some p → IsSuffix t p.1
end-close_by mark t p e =
    let h = bind_some (after_text mark (tilde_at t).1) (λ r. Some ((tilde_at t).0, r)) p e in
    subst (λ (q : Bool × Text). IsSuffix t q.1) (same_Some ((tilde_at t).0, h.0) p h.2)
    (end-after t (tilde_at t).1 h.0 (end-tilde t) (end-after_text mark (tilde_at t).1 h.0 h.1))

end-brace_tilde_braces : (t : Text) (p : Bool × Text) → brace_tilde_braces t ≡ Some p → IsSuffix t p.1
end-brace_tilde_braces t p e =
    let last : Text → Option (Bool × Text) = λ s. after_text (codes "}}") (after_white s) >>= λ u. Some (true, u) in
    let h = bind_some (after_byte right_brace (after_white t)) (λ r. after_byte tilde (after_white r) >>= last) p e in
    let k = bind_some (after_byte tilde (after_white h.0)) last p h.2 in
    let l = bind_some (after_text (codes "}}") (after_white k.0)) (λ u. Some (true, u)) p k.2 in
    let one : IsSuffix t h.0 = end-after t (after_white t) h.0 (end-white t) (end-after_byte right_brace (after_white t) h.0 h.1) in
    let two : IsSuffix h.0 k.0 = end-after h.0 (after_white h.0) k.0 (end-white h.0) (end-after_byte tilde (after_white h.0) k.0 k.1) in
    let three : IsSuffix k.0 l.0 = end-after k.0 (after_white k.0) l.0 (end-white k.0) (end-after_text (codes "}}") (after_white k.0) l.0 l.1) in
    subst (λ (q : Bool × Text). IsSuffix t q.1) (same_Some (true, l.0) p l.2) (end-after t h.0 l.0 one (end-after h.0 k.0 l.0 two three))

end-three_close : (t : Text) (p : Bool × Text) → three_close t ≡ Some p → IsSuffix t p.1
end-three_close t p e = elim (with_or_is (close_by (codes "}}}") t) Some (brace_tilde_braces t) (Some p) e) [
  | inl there ↦ end-close_by (codes "}}}") t p (there.1 ∙ there.2)
  | inr none ↦ end-brace_tilde_braces t p none.1
]

end-closing : (k : TagKind) (t : Text) (p : Bool × Text) → closing_of k t ≡ Some p → IsSuffix t p.1
unfolding closing_of
end-closing escaped_kind t p e = end-close_by (codes "}}") t p e
end-closing html_kind t p e = end-three_close t p e
end-closing html_sign_kind t p e = end-close_by (codes "}}") t p e
end-closing block_kind t p e = end-close_by (codes "}}") t p e
end-closing close_kind t p e = end-close_by (codes "}}") t p e
end-closing inverse_kind t p e = end-close_by (codes "}}") t p e
end-closing else_kind t p e = end-close_by (codes "}}") t p e
end-closing raw_kind t p e = end-close_by (codes "}}}}") t p e
end-closing raw_close_kind t p e = end-close_by (codes "}}}}") t p e
end-closing decorator_kind t p e = end-close_by (codes "}}") t p e
end-closing decorator_block_kind t p e = end-close_by (codes "}}") t p e
end-closing partial_kind t p e = end-close_by (codes "}}") t p e
end-closing partial_block_kind t p e = end-close_by (codes "}}") t p e
end-closing comment_kind t p e = subst (λ (q : Bool × Text). IsSuffix t q.1) (same_Some (false, t) p e) (end-all t)

-- ---- the content

end-expression : {mode : NameMode} {around : Enclosure} {t rest : Text} {expression : Expression} → IsExpression mode around t expression rest → IsSuffix t rest
end-expression {rest = rest} x = (spelled_name x.name ++ spelled_items x.items, x.whole ∙ sym (append_assoc (spelled_name x.name) (spelled_items x.items) rest))

end-binding : (t rest : Text) (means : BoundNames) → IsBinding t means rest → IsSuffix t rest
end-binding t rest means (is_unbound none gives all) = ([], sym all)
end-binding t rest means (is_bound b) =
    let prefix : Text = b.white ++ (codes "as" ++ (b.between ++ bar ∷ (spelled_names b.names ++ bar ∷ []))) in
    (prefix, b.whole ∙ sym (grouped b.white (codes "as") b.between (spelled_names b.names) rest))
  where
    grouped : (a b c d e : Text) → (a ++ (b ++ (c ++ bar ∷ (d ++ bar ∷ [])))) ++ e ≡ a ++ (b ++ (c ++ bar ∷ (d ++ bar ∷ e)))
    grouped a b c d e = simp append_assoc

end-block : {mode : NameMode} (t rest : Text) (expression : BlockExpression) → IsBlockExpression mode t expression rest → IsSuffix t rest
end-block t rest expression x = end-after t x.after rest (end-expression x.is_expression) (end-binding x.after rest expression.binding x.binds)

end-close_name : (t : Text) → IsSuffix t (close_name_at t).1
end-close_name t = ((close_name_at t).0, close_name-whole t)

end-comment : (t comment_text rest : Text) → IsComment t comment_text rest → IsSuffix t rest
end-comment t _ _ (long body whole is) = (body, whole)
end-comment t _ _ (compact body whole none is) = (body, whole)

end-says : (sections : Bool) (k : TagKind) (t : Text) (tag : Tag) (rest : Text) → Says sections k t tag rest → IsSuffix t rest
end-says sections escaped_kind t tag rest h = let s = said sections escaped_kind t tag rest h in end-expression s.is
end-says sections html_kind t tag rest h = let s = said sections html_kind t tag rest h in end-expression s.is
end-says sections html_sign_kind t tag rest h = let s = said sections html_sign_kind t tag rest h in end-expression s.is
end-says sections block_kind t tag rest h = let s = said sections block_kind t tag rest h in end-block t rest s.expression s.is
end-says sections close_kind t tag rest h = let s = said sections close_kind t tag rest h in subst (IsSuffix t) (sym s.rests) (end-close_name t)
end-says sections inverse_kind t tag rest h = let s = said sections inverse_kind t tag rest h in subst (IsSuffix t) (sym s.rests) (end-all t)
end-says sections else_kind t tag rest h = elim (said sections else_kind t tag rest h) [
  | inl s ↦ subst (IsSuffix t) (sym s.rests) (end-all t)
  | inr s ↦ end-after t (after_white t) rest (end-white t) (end-block (after_white t) rest s.said.expression s.said.is)
]
end-says sections raw_kind t tag rest h = let s = said sections raw_kind t tag rest h in end-block t rest s.expression s.is
end-says sections raw_close_kind t tag rest h = let s = said sections raw_close_kind t tag rest h in subst (IsSuffix t) (sym s.said.rests) (end-drop (prefix_len is_symbol t) t)
end-says sections decorator_kind t tag rest h = let s = said sections decorator_kind t tag rest h in end-block t rest s.said.expression s.said.is
end-says sections decorator_block_kind t tag rest h = let s = said sections decorator_block_kind t tag rest h in end-block t rest s.said.expression s.said.is
end-says sections partial_kind t tag rest h = let s = said sections partial_kind t tag rest h in end-expression s.is
end-says sections partial_block_kind t tag rest h = let s = said sections partial_block_kind t tag rest h in end-expression s.is
end-says sections comment_kind t tag rest h = let s = said sections comment_kind t tag rest h in end-comment t s.comment_text rest s.is

pub end-closed : (sections : Bool) (k : TagKind) (t : Text) (tag : Tag) (right : Bool) (rest : Text) → IsClosed sections k t tag right rest → IsSuffix t rest
end-closed sections k t tag right rest h = end-after t h.after rest (end-says sections k t tag h.after h.says) (end-closing k h.after (right, rest) h.closes)
