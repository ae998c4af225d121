mod Lwo2Bodies
