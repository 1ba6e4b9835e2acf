use Rattle.range_req.proofs.multipart_body.append_fields.Goals as goal

-- the pieces are the fields
pub returns : goal.returns
returns c =
    simp (
      c.as_slice.ensures,
      c.as_bytes.ensures.value,
      c.as_slice-2.ensures,
      c.as_bytes-2.ensures.value,
      c.format.ensures.text,
      c.as_slice-3.ensures,
      c.as_bytes-3.ensures.value,
      c.format-2.ensures.text,
      c.as_slice-4.ensures,
      c.as_bytes-4.ensures.value,
      c.format-3.ensures.text,
      c.as_slice-5.ensures,
    ) at c.append_all.ensures
