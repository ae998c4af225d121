mod SameBytes
