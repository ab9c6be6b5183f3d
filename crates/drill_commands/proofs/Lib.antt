mod GoingThrough
