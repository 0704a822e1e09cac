mod Located
